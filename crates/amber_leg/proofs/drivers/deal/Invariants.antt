-- Those with the greatest numbers are dealt, and the others are left.
use Rattle.std.proofs.Common.{◌≡◌, ◌≤◌, length, take, vec_capacity, vec_len}
use Rattle.amber_leg.proofs.Dealt.{AreDealtFrom}
use Rattle.amber_leg.proofs.drivers.deal.Given as goal

abbrev pub invariant-workers : goal.invariant-workers
invariant-workers l = record {
  few : vec_len l.workers ≤ vec_len l.initial.workers;
  left : l.workers.items ≡ take (vec_len l.workers) l.initial.workers.items;
  long : length l.drivers ≡ length l.initial.drivers;
  room : vec_len l.initial.workers ≤ vec_capacity l.workers;
  dealt : AreDealtFrom (vec_len l.workers) l.owners l.initial.workers.items l.drivers;
}

abbrev pub decreases-workers : goal.decreases-workers
decreases-workers l = vec_len l.workers
