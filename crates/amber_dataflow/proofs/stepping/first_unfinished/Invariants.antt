-- The workers so far have finished.
use Rattle.amber_dataflow.specs.AtWork.{HaveFinished}
use Rattle.amber_dataflow.proofs.stepping.first_unfinished.Given as goal

abbrev pub invariant-workers : goal.invariant-workers
invariant-workers l = HaveFinished l.number l.crew
