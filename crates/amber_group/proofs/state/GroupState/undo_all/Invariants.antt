-- What is left to take out leads back to the same state.
use Rattle.std.proofs.Common.{◌≡◌}
use Rattle.amber_group.specs.Undoing.{CanUndoAll, restored_all}
use Rattle.amber_group.proofs.state.GroupState.undo_all.Given as goal

abbrev pub invariant-loop-taken : goal.invariant-loop-taken
invariant-loop-taken l = record {
  back : restored_all l.all.items l.self ≡ restored_all l.initial.all.items l.initial.self;
  can : CanUndoAll l.all.items l.self;
}

abbrev pub decreases-loop-taken : goal.decreases-loop-taken
decreases-loop-taken l = goal.left-loop-taken l
