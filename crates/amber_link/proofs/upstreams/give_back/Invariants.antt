-- Nothing is seen to change.
use Rattle.std.proofs.Common.{◌≡◌}
use Rattle.amber_link.proofs.upstreams.give_back.Given as goal

abbrev pub invariant-loop-i : goal.invariant-loop-i
invariant-loop-i l = l.ins ≡ l.fn.ins
