-- So many numbers are there, each of a worker.
use Rattle.std.proofs.Common.{◌≡◌, ◌<◌, ◌≤◌, All, length, vec_capacity}
use Rattle.amber_leg.proofs.owners.by_steps.Given as goal

abbrev pub invariant-workers : goal.invariant-workers
invariant-workers l = record {
  long : length l.order.items ≡ l.number;
  within : All (λ number. number < l.count) l.order.items;
  room : l.count ≤ vec_capacity l.order;
}
