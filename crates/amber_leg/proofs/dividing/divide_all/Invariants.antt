-- All boards are led still.
use Rattle.amber_leg.specs.Coordinating.{AreLedOn}
use Rattle.amber_leg.proofs.dividing.divide_all.Given as goal

abbrev pub invariant-operators : goal.invariant-operators
invariant-operators l = record {
  led : AreLedOn l.boards l.chiefs;
}
