-- Of the senders so far none gives this batch next.
use Rattle.std.proofs.Common.{◌≡◌, ◌<◌, ℕ, false, get_or}
use Rattle.amber_link.specs.Sides.{AreLooked, comes_next}
use Rattle.amber_link.specs.declared.upstreams.Upstream.{Upstream}
use Rattle.amber_link.proofs.upstreams.next_place.Given as goal

abbrev pub invariant-loop-i : goal.invariant-loop-i
invariant-loop-i l = record {
  looked : AreLooked l.fn.ins l.ins;
  none : (k : ℕ) (d : Upstream) → k < l.i → comes_next l.built l.from l.number (get_or l.ins k d) ≡ false;
}
