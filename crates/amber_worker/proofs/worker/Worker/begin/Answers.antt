-- A leg begins.
use Rattle.std.proofs.Common.{ap, refl, sym, subst}
use Rattle.amber_meaning.specs.Position.{Restraint}
use Rattle.amber_worker.specs.Changes.{StandsAtLeg}
use Rattle.amber_worker.proofs.Bounds.{few-begun}
use Rattle.amber_worker.proofs.Commands.{stands-at_leg}
use Rattle.amber_worker.proofs.worker.Worker.begin.Goals as goal

pub invariant_of-self : goal.invariant_of-self
invariant_of-self c = few-begun _ _ _ c.self.invariant (ap (λ (restraint : Restraint). restraint.paused) (c.release.ensures 0)) c.clear.ensures.items

pub returns-clause-only : goal.returns-clause-only
returns-clause-only c = rw (← c.self.view_is, c.clear.ensures.items, c.clear.ensures.reserved, c.release.ensures _) refl

pub returns-clause-stands : goal.returns-clause-stands
returns-clause-stands c = subst (λ w. StandsAtLeg c.args.self.now w) (sym (returns-clause-only c)) (stands-at_leg c.args.self.now)
