-- All boards are led still.
use Rattle.amber_leg.specs.Coordinating.{AreLedOn}
use Rattle.amber_leg.proofs.coordinator.coordinate.Given as goal

abbrev pub invariant-turns : goal.invariant-turns
invariant-turns g l = record {
  led : AreLedOn l.shared.all.now l.chiefs;
}
