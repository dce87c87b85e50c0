-- Of the senders so far none may be taken of.
use Rattle.std.proofs.Common.{◌≡◌, ◌<◌, ℕ, false, get_or}
use Rattle.amber_link.specs.Sides.{AreLooked, may_come}
use Rattle.amber_link.specs.declared.upstreams.Upstream.{Upstream}
use Rattle.amber_link.proofs.upstreams.ready_place.Given as goal

abbrev pub invariant-loop-i : goal.invariant-loop-i
invariant-loop-i l = record {
  looked : AreLooked l.fn.ins l.ins;
  none : (k : ℕ) (d : Upstream) → k < l.i → may_come l.built (get_or l.ins k d) ≡ false;
}
