-- The group that was meant, step by step.
use Rattle.std.proofs.Common.{List, Some, ap, sym, subst, ◌∙◌}
use Rattle.amber_rows.specs.Columns.{HasInput}
use Rattle.amber_rows.specs.declared.column.Column.{Column}
use Rattle.amber_flow.specs.Groups.{group_of}
use Rattle.amber_flow.proofs.PartFacts.{meant-over, none-meant, parts-handed_on, parts-refused}
use Rattle.amber_flow.proofs.group.read_group.Goals as goal

pub returns-in_err-id : goal.returns-in_err-id
unfolding group_of
returns-in_err-id c =
    rw (← c.in_err-id.ensures) (parts-refused c.from_residual.result c.in_err-id.field-0.0 c.from_residual.ensures.1)

pub returns-in_err-names : goal.returns-in_err-names
unfolding group_of
returns-in_err-names c =
    rw (← c.in_ok-id.ensures)
    (parts-handed_on c.from_residual-in_err-names.result c.in_err-names.field-0.0 _ _ c.from_residual-in_err-names.ensures.1 c.in_err-names.ensures (λ why is. rw (← is)))

pub returns-in_err-texts : goal.returns-in_err-texts
unfolding group_of
returns-in_err-texts c =
    rw (← c.in_ok-id.ensures, ← c.in_ok-names.ensures)
    (parts-handed_on c.from_residual-in_err-texts.result c.in_err-texts.field-0.0 _ _ c.from_residual-in_err-texts.ensures.1 c.in_err-texts.ensures (λ why is. rw (← is)))

pub returns-then-not-are_aggregates : goal.returns-then-not-are_aggregates
unfolding group_of
returns-then-not-are_aggregates c =
    let formed = rw c.as_slice.ensures.value at c.if-not-are_aggregates.ensures in
    rw (← c.in_ok-id.ensures, ← c.in_ok-names.ensures, ← c.in_ok-texts.ensures, ← formed) none-meant

pub returns-in_err-input : goal.returns-in_err-input
unfolding group_of
returns-in_err-input c =
    let formed = rw c.as_slice.ensures.value at c.if-not-are_aggregates.ensures in
    rw (← c.in_ok-id.ensures, ← c.in_ok-names.ensures, ← c.in_ok-texts.ensures, ← formed, ← c.in_err-input.ensures.number) (parts-refused c.from_residual-in_err-input.result c.in_err-input.field-0.0 c.from_residual-in_err-input.ensures.1)

pub returns : goal.returns
unfolding group_of
returns c =
    let formed = rw c.as_slice.ensures.value at c.if-not-are_aggregates.ensures in
    let before = c.args.before.now in
    let input = c.in_ok-input.input in
    let columns = c.schema_at.ensures.columns ∙ ap Some (sym c.get-columns.ensures) in
    let has = subst (λ (columns : List Column). HasInput before input columns) (sym c.get-columns.ensures) c.schema_at.ensures.input in
    let parts = rw (c.as_slice-2.ensures.value, c.as_slice-3.ensures.value) at c.read_over.ensures.parts in
    rw (← c.in_ok-id.ensures, ← c.in_ok-names.ensures, ← c.in_ok-texts.ensures, ← formed, ← c.in_ok-input.ensures.number, columns)
    (meant-over before input c.get-columns.result.now _ c.read_over.result parts c.read_over.ensures.kind c.read_over.ensures.sink c.in_ok-input.ensures.there has)
