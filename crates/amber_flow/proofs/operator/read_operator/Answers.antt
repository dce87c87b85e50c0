-- The operator that was meant, step by step.
use Rattle.std.proofs.Common.{sym, ap, ◌∙◌}
use Rattle.amber_rows.specs.Columns.{is_among, is_id}
use Rattle.amber_flow.specs.Operators.{ids_of, operator_of}
use Rattle.amber_flow.proofs.ReadFacts.{handed_on, refused}
use Rattle.amber_flow.proofs.operator.read_operator.Goals as goal

pub returns-clause-operator : goal.returns-clause-operator
unfolding operator_of
returns-clause-operator c =
    rw (← c.in_ok-id.ensures, ← c.in_ok-word.ensures, ← c.in_ok-check_id.ensures.checked, ← c.in_ok-head.ensures.head, ← c.in_ok-parts.ensures.parts, ← c.in_ok-check_schema.ensures.checked, c.in_ok-new.ensures)

pub returns-clause-next : goal.returns-clause-next
returns-clause-next c = record {
  named = ap is_id c.in_ok-new.ensures ∙ c.in_ok-check_id.ensures.named;
  fresh = ap (λ id. is_among id (ids_of c.args.before.now)) c.in_ok-new.ensures ∙ c.in_ok-check_id.ensures.fresh;
  columns = c.in_ok-check_schema.ensures.columns;
  kind = c.in_ok-parts.ensures.kind;
  some_workers = c.in_ok-head.ensures.some_workers;
  few_workers = c.in_ok-head.ensures.few_workers;
  one_at_sink = λ last. c.in_ok-head.ensures.one_at_sink (sym c.in_ok-parts.ensures.sink ∙ last);
}

pub returns-clause-placed : goal.returns-clause-placed
returns-clause-placed c = c.in_ok-parts.ensures.sink ∙ c.in_ok-head.ensures.placed

pub returns-in_err-id-clause-operator : goal.returns-in_err-id-clause-operator
unfolding operator_of
returns-in_err-id-clause-operator c =
    rw (← c.in_err-id.ensures) (refused c.from_residual.result c.in_err-id.field-0.0 c.from_residual.ensures.1)

pub returns-in_err-word-clause-operator : goal.returns-in_err-word-clause-operator
unfolding operator_of
returns-in_err-word-clause-operator c =
    rw (← c.in_ok-id.ensures, ← c.in_err-word.ensures) (refused c.from_residual-in_err-word.result c.in_err-word.field-0.0 c.from_residual-in_err-word.ensures.1)

pub returns-in_err-check_id-clause-operator : goal.returns-in_err-check_id-clause-operator
unfolding operator_of
returns-in_err-check_id-clause-operator c =
    rw (← c.in_ok-id.ensures, ← c.in_ok-word.ensures, ← c.in_err-check_id.ensures.checked) (refused c.from_residual-in_err-check_id.result c.in_err-check_id.field-0.0 c.from_residual-in_err-check_id.ensures.1)

pub returns-in_err-head-clause-operator : goal.returns-in_err-head-clause-operator
unfolding operator_of
returns-in_err-head-clause-operator c =
    rw (← c.in_ok-id.ensures, ← c.in_ok-word.ensures, ← c.in_ok-check_id.ensures.checked, ← c.in_err-head.ensures.head) (refused c.from_residual-in_err-head.result c.in_err-head.field-0.0 c.from_residual-in_err-head.ensures.1)

pub returns-in_err-parts-clause-operator : goal.returns-in_err-parts-clause-operator
unfolding operator_of
returns-in_err-parts-clause-operator c =
    rw (← c.in_ok-id.ensures, ← c.in_ok-word.ensures, ← c.in_ok-check_id.ensures.checked, ← c.in_ok-head.ensures.head)
    (handed_on c.from_residual-in_err-parts.result c.in_err-parts.field-0.0 _ _ c.from_residual-in_err-parts.ensures.1 c.in_err-parts.ensures.parts (λ why is. rw (← is)))

pub returns-in_err-check_schema-clause-operator : goal.returns-in_err-check_schema-clause-operator
unfolding operator_of
returns-in_err-check_schema-clause-operator c =
    rw (← c.in_ok-id.ensures, ← c.in_ok-word.ensures, ← c.in_ok-check_id.ensures.checked, ← c.in_ok-head.ensures.head, ← c.in_ok-parts.ensures.parts, ← c.in_err-check_schema.ensures.checked) (refused c.from_residual-in_err-check_schema.result c.in_err-check_schema.field-0.0 c.from_residual-in_err-check_schema.ensures.1)
