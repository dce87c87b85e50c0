-- Nothing is seen to change.
use Rattle.std.proofs.Common.{◌≡◌}
use Rattle.amber_link.proofs.downstreams.take_back.Given as goal

abbrev pub invariant-loop-i : goal.invariant-loop-i
invariant-loop-i l = l.outs ≡ l.fn.outs
