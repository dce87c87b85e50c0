-- So many turns were made so far.
use Rattle.std.proofs.Common.{◌-◌, ◌≤◌}
use Rattle.std.specs.Option.{option_copied}
use Rattle.amber_worker.specs.Counting.{IsBoardOf}
use Rattle.amber_leg.specs.Slices.{HasCounted}
use Rattle.amber_leg.proofs.slices.drive_worker.Given as goal

abbrev pub invariant-slices : goal.invariant-slices
invariant-slices g l = record {
  within : l.left ≤ l.budget.slice;
  made : HasCounted (l.budget.slice - l.left) l.initial.worker l.worker;
  own : IsBoardOf (option_copied l.initial.board) l.worker.seat;
}

abbrev pub decreases-slices : goal.decreases-slices
decreases-slices g l = l.left
