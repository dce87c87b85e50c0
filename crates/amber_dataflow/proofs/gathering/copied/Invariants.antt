-- What the first workers have refused, and the rows of the last of them.
use Rattle.std.proofs.Common.{take}
use Rattle.amber_dataflow.specs.Answers.{HaveGiven}
use Rattle.amber_dataflow.proofs.gathering.copied.Given as goal

abbrev pub invariant-loop-worker : goal.invariant-loop-worker
invariant-loop-worker l = HaveGiven (take l.worker-index l.crew) l.refused.items l.rows
