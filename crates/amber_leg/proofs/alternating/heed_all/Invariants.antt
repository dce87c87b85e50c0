-- Those at the first places have done what they were told.
use Rattle.amber_leg.proofs.Driven.{HasDrivenBelow}
use Rattle.amber_leg.proofs.alternating.heed_all.Given as goal

abbrev pub invariant-places : goal.invariant-places
invariant-places l = record {
  below : HasDrivenBelow l.place 0 l.boards l.initial.driver l.driver;
}
