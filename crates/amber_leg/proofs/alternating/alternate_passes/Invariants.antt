-- So many passes were made.
use Rattle.std.proofs.Common.{◌*◌}
use Rattle.amber_leg.specs.Coordinating.{AreLedOn}
use Rattle.amber_leg.specs.Driving.{HasDrivenAll}
use Rattle.amber_leg.proofs.alternating.alternate_passes.Given as goal

abbrev pub invariant-passes : goal.invariant-passes
invariant-passes g l = record {
  driven : HasDrivenAll (l._made * l.budget.slice) l.shared.boards.now l.initial.driver l.driver;
  led : AreLedOn l.shared.all.now l.chiefs;
}
