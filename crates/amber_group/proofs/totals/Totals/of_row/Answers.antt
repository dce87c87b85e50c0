-- Of no row the numbers are 0.
use Rattle.std.proofs.Common.{arith, subst, sym}
use Rattle.amber_group.specs.Steps.{AreWithin}
use Rattle.amber_group.proofs.Within.{none-are_within}
use Rattle.amber_group.proofs.totals.Totals.of_row.Goals as goal

pub add-requires : goal.add-requires
add-requires c = (0, omega arith, subst (AreWithin 0) (sym c.in_ok-totals.ensures) (none-are_within c.args.aggs.now))

pub returns-clause-within : goal.returns-clause-within
returns-clause-within c = c.in_ok-add.ensures.within 0 (subst (AreWithin 0) (sym c.in_ok-totals.ensures) (none-are_within c.args.aggs.now))
