-- The steps of the first workers are counted.
use Rattle.std.proofs.Common.{◌≡◌, take}
use Rattle.amber_dataflow.specs.AtWork.{steps_by}
use Rattle.amber_dataflow.proofs.counts.steps_of.Given as goal

abbrev pub invariant-loop-worker : goal.invariant-loop-worker
invariant-loop-worker l = l.steps ≡ steps_by (take l.worker-index l.crew)
