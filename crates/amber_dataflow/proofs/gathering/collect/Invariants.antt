-- What the workers so far have refused, and the rows of the last of them.
use Rattle.std.proofs.Common.{◌≡◌, ◌++◌}
use Rattle.std.specs.Vec.Iter.{into_iter_items}
use Rattle.amber_dataflow.specs.Answers.{HaveGiven}
use Rattle.amber_dataflow.proofs.gathering.collect.Given as goal

abbrev pub invariant-loop-worker : goal.invariant-loop-worker
invariant-loop-worker l = record {
  all : l.yielded ++ into_iter_items l.worker-iterator ≡ l.fn.crew.items;
  given : HaveGiven l.yielded l.refused.items l.rows;
}
