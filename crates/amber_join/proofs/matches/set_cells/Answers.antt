-- All cells are equal.
use Rattle.std.proofs.Common.{[], arith}
use Rattle.std.proofs.lemmas.List.{ext_get_or}
use Rattle.amber_rows.specs.declared.value.Value.TheVariants as value
use Rattle.amber_join.proofs.matches.set_cells.Goals as goal

pub returns : goal.returns
returns c = ext_get_or (value.Text []) _ _ c.loop-i.invariant.long (λ k less. c.loop-i.invariant.same k (value.Text []) (omega (arith, c.loop-i.invariant.long)))
