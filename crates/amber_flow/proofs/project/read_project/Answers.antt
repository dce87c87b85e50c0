-- The projection that was meant, step by step.
use Rattle.std.proofs.Common.{List, ℕ, Bor, map, subst, sym, ap, refl, ◌∙◌}
use Rattle.serde_json.specs.View.{view}
use Rattle.amber_rows.specs.Columns.{HasInput}
use Rattle.amber_rows.specs.declared.column.Column.{Column}
use Rattle.amber_rows.specs.Chain.{each}
use Rattle.amber_flow.specs.Columns.{column_number}
use Rattle.amber_flow.specs.Operators.{project_of}
use Rattle.amber_flow.proofs.NameFacts.{project-kind}
use Rattle.amber_flow.proofs.PartFacts.{parts-handed_on, parts-no_memory, parts-refused}
use Rattle.amber_flow.proofs.ReadFacts.{ok_or-some}
use Rattle.amber_flow.proofs.project.read_project.Goals as goal

pub returns-in_err-id : goal.returns-in_err-id
unfolding project_of
returns-in_err-id c =
    rw (← c.in_err-id.ensures) (parts-refused c.from_residual.result c.in_err-id.field-0.0 c.from_residual.ensures.1)

pub returns-in_err-pairs : goal.returns-in_err-pairs
unfolding project_of
returns-in_err-pairs c =
    rw (← c.in_ok-id.ensures, ← c.in_err-pairs.ensures) (parts-refused c.from_residual-in_err-pairs.result c.in_err-pairs.field-0.0 c.from_residual-in_err-pairs.ensures.1)

pub returns-in_err-sources : goal.returns-in_err-sources
unfolding project_of
returns-in_err-sources c =
    rw (← c.in_ok-id.ensures, ← c.in_ok-pairs.ensures)
    (parts-handed_on c.from_residual-in_err-sources.result c.in_err-sources.field-0.0 _ _ c.from_residual-in_err-sources.ensures.1 c.in_err-sources.ensures (λ why is. rw (← is)))

pub returns-in_err-input : goal.returns-in_err-input
unfolding project_of
returns-in_err-input c =
    rw (← c.in_ok-id.ensures, ← c.in_ok-pairs.ensures, ← c.in_ok-sources.ensures, ← c.in_err-input.ensures.number) (parts-refused c.from_residual-in_err-input.result c.in_err-input.field-0.0 c.from_residual-in_err-input.ensures.1)

pub returns-in_err-from : goal.returns-in_err-from
unfolding project_of
returns-in_err-from c =
    rw (← c.in_ok-id.ensures, ← c.in_ok-pairs.ensures, ← c.in_ok-sources.ensures, ← c.in_ok-input.ensures.number, c.schema_at.ensures.columns, ← c.get-columns.ensures, ← c.as_slice.ensures.value)
    (parts-handed_on c.from_residual-in_err-from.result c.in_err-from.field-0.0 _ _ c.from_residual-in_err-from.ensures.1 c.in_err-from.ensures (λ why is. rw (← is)))

pub returns-in_err-schema : goal.returns-in_err-schema
returns-in_err-schema c = parts-no_memory c.from_residual-in_err-schema.result c.from_residual-in_err-schema.ensures.1

pub returns : goal.returns
unfolding project_of
returns c =
    let now = λ (name : Bor (List ℕ)). name.now in
    let before = c.args.before.now in
    let input = c.in_ok-input.input in
    let columns = c.get-columns.result.now in
    let has = subst (λ (columns : List Column). HasInput before input columns) (sym c.get-columns.ensures) c.schema_at.ensures.input in
    let sources = ok_or-some _ _ _ c.in_ok-sources.ensures in
    let found = ap (λ (names : List (Bor (List ℕ))). each (column_number columns) (map now names)) (sym c.as_slice.ensures.value) ∙ ok_or-some _ _ _ c.in_ok-from.ensures in
    record {
      parts = rw (← c.in_ok-id.ensures, ← c.in_ok-pairs.ensures, ← c.in_ok-sources.ensures, ← c.in_ok-input.ensures.number, c.schema_at.ensures.columns, ← c.get-columns.ensures, ← c.as_slice.ensures.value, ← c.in_ok-from.ensures, c.new.ensures, c.in_ok-schema.ensures) refl;
      kind = project-kind before input columns (map view c.in_ok-pairs.pairs.now) (map now c.in_ok-sources.sources.items) c.in_ok-from.from c.in_ok-from.from c.new.result c.in_ok-input.ensures.there has sources
          found refl (c.new.ensures ∙ c.in_ok-schema.ensures);
      sink = refl;
    }
