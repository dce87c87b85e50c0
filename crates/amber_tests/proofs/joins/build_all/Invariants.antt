-- The join stays open.
use Rattle.std.proofs.Common.{◌≡◌, false}
use Rattle.amber_tests.proofs.joins.build_all.Given as goal

abbrev pub invariant-loop-row : goal.invariant-loop-row
invariant-loop-row l = l.state.sealed ≡ false
