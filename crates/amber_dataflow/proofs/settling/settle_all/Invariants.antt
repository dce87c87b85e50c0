-- What was made for the workers so far has come.
use Rattle.amber_dataflow.specs.AtWork.{StayPut}
use Rattle.amber_dataflow.specs.Passing.{AreAllSettled, AreSameBesides}
use Rattle.amber_dataflow.proofs.settling.settle_all.Given as goal

abbrev pub invariant-workers : goal.invariant-workers
invariant-workers l = record {
  put : StayPut l.initial.crew l.crew;
  settled : AreAllSettled l.number l.crew;
  aside : AreSameBesides l.initial.crew l.crew;
}
