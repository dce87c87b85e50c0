-- Those at the first places have made their slice.
use Rattle.amber_leg.proofs.Driven.{HasDrivenBelow}
use Rattle.amber_leg.proofs.driver.drive_slices.Given as goal

abbrev pub invariant-places : goal.invariant-places
invariant-places g l = record {
  below : HasDrivenBelow l.place l.budget.slice l.shared.boards.now l.initial.driver l.driver;
}
