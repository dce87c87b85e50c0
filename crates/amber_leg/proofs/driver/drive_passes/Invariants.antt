-- So many passes were made.
use Rattle.std.proofs.Common.{◌*◌}
use Rattle.amber_leg.specs.Driving.{HasDrivenAll}
use Rattle.amber_leg.proofs.driver.drive_passes.Given as goal

abbrev pub invariant-passes : goal.invariant-passes
invariant-passes g l = record {
  driven : HasDrivenAll (l.made * l.shared.budget.slice) l.shared.boards.now l.initial.driver l.driver;
}
