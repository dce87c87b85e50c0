-- The first operators had their turn.
use Rattle.amber_home.specs.Going.{AreAsFar, AreReady, GoOn}
use Rattle.amber_home.proofs.feeding.feed_each.Given as goal

abbrev pub invariant-operators : goal.invariant-operators
invariant-operators l = record {
  on : GoOn l.arms l.initial.dataflow l.dataflow;
  far : AreAsFar l.arms l.initial.dataflow l.dataflow;
  counted : AreReady l.arms l.boards l.dataflow;
}
