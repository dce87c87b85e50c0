-- There are no needs of other workers.
use Rattle.std.proofs.Common.{◌≡◌, All, drop}
use Rattle.amber_principal.specs.declared.dividing.Need.TheVariants as need
use Rattle.amber_leg.proofs.dividing.needs_among.Given as goal

abbrev pub invariant-places : goal.invariant-places
invariant-places l = record {
  absent : All (λ one. one ≡ need.Absent) (drop l.workers l.needs);
}
