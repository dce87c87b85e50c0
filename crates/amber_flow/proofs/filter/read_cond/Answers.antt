-- The column that was found, and a constant of its kind.
use Rattle.std.proofs.Common.{◌≡◌, ℕ, ◌-◌, ◌<◌, ◌≤◌, eqb, false, List, length, get_or, Option, Some, ok_or, sym, ap, ◌∙◌, arith}
use Rattle.std.proofs.lemmas.Bool.{ne_eqb}
use Rattle.std.proofs.lemmas.Option.{slice_get-get_or}
use Rattle.amber_rows.specs.Lists.{nth}
use Rattle.amber_rows.specs.declared.column.Column.{Column}
use Rattle.amber_flow.specs.Operators.{cond_of}
use Rattle.amber_flow.specs.declared.error.FlowWhy.TheVariants.{Column as NoColumn}
use Rattle.amber_flow.proofs.ReadFacts.{handed_on, refused}
use Rattle.amber_flow.proofs.filter.read_cond.Goals as goal

numbered : (columns : List Column) (number : ℕ) (column : Column) → 0 < number → number ≤ length columns → nth columns number ≡ Some (get_or columns (number - 1) column)
numbered columns number column some within =
    let no : eqb number 0 ≡ false = ne_eqb number 0 (omega arith) in
    rw no (slice_get-get_or columns (number - 1) column (omega arith))

pub returns-in_err-column-clause-cond : goal.returns-in_err-column-clause-cond
unfolding cond_of
returns-in_err-column-clause-cond c =
    let why = c.in_err-column.ensures.value ∙ ap (λ (number : Option ℕ). ok_or number NoColumn) c.find_column.ensures.number in
    rw (← c.get-columns.ensures, ← why) (refused c.from_residual.result c.in_err-column.field-0.0 c.from_residual.ensures.1)

pub returns-in_err-constant-clause-cond : goal.returns-in_err-constant-clause-cond
unfolding cond_of
returns-in_err-constant-clause-cond c =
    let number = sym c.in_ok-column.ensures.ok_part ∙ c.find_column.ensures.number in
    let there = rw c.in_ok-column.ensures.ok_part at c.find_column.ensures.there in
    let here = numbered c.get-columns.result.now c.in_ok-column.column c.index-columns-column.result there.0 there.1 in
    rw (← c.get-columns.ensures, ← number, here)
    (handed_on c.from_residual-in_err-constant.result c.in_err-constant.field-0.0 _ _ c.from_residual-in_err-constant.ensures.1 c.in_err-constant.ensures.constant (λ why is. rw (← is)))

pub returns-clause-cond : goal.returns-clause-cond
unfolding cond_of
returns-clause-cond c =
    let number = sym c.in_ok-column.ensures.ok_part ∙ c.find_column.ensures.number in
    let there = rw c.in_ok-column.ensures.ok_part at c.find_column.ensures.there in
    let here = numbered c.get-columns.result.now c.in_ok-column.column c.index-columns-column.result there.0 there.1 in
    rw (← c.get-columns.ensures, ← number, here, ← c.in_ok-constant.ensures.constant)

pub returns-clause-fits : goal.returns-clause-fits
returns-clause-fits c =
    let there = rw c.in_ok-column.ensures.ok_part at c.find_column.ensures.there in
    let here = numbered c.get-columns.result.now c.in_ok-column.column c.index-columns-column.result there.0 there.1 in
    rw (← c.get-columns.ensures, here) (sym c.in_ok-constant.ensures.kind)
