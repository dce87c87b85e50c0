-- There are the refusals, the columns and the rows.
use Rattle.std.proofs.Common.{◌≡◌, ◌+◌, ◌-◌, ◌∙◌, Some, List, ap, arith, length, sym}
use Rattle.std.proofs.lemmas.Result.{IfOk-from_err}
use Rattle.amber_rows.specs.Columns.{columns_at, schema_of}
use Rattle.amber_rows.specs.Lists.{nth}
use Rattle.amber_rows.specs.declared.flow.Operator.{Operator}
use Rattle.amber_meaning.proofs.Operators.{nth-here}
use Rattle.amber_plain.proofs.answering.answer.Goals as goal

pub overflow_sub-last : goal.overflow_sub-last
overflow_sub-last c = omega (arith, c.get-operators.ensures.flow.some, ap length c.get-operators.ensures.operators)

pub offset_bounds-operators-operators : goal.offset_bounds-operators-operators
offset_bounds-operators-operators c = omega (arith, c.get-operators.ensures.flow.few, ap length c.get-operators.ensures.operators)

pub bounds-operators-operators : goal.bounds-operators-operators
bounds-operators-operators c = omega (arith, c.get-operators.ensures.flow.some, ap length c.get-operators.ensures.operators)

pub returns-in_err-columns : goal.returns-in_err-columns
returns-in_err-columns c =
    let e = c.from_residual.ensures in record { refused = IfOk-from_err _ _ e.0; columns = IfOk-from_err _ _ e.0; rows = IfOk-from_err _ _ e.0 }

pub returns-in_err-refused : goal.returns-in_err-refused
returns-in_err-refused c =
    let e = c.from_residual-in_err-refused.ensures in record { refused = IfOk-from_err _ _ e.0; columns = IfOk-from_err _ _ e.0; rows = IfOk-from_err _ _ e.0 }

pub returns-clause-refused : goal.returns-clause-refused
returns-clause-refused c = c.in_ok-refused.ensures

pub returns-clause-rows : goal.returns-clause-rows
returns-clause-rows c = c.new.ensures

pub returns-clause-columns : goal.returns-clause-columns
returns-clause-columns c =
    let ops = c.get-operators.result.now in
    let last = c.index-operators-operators.result in
    let same : ops ≡ c.args.flow.now = c.get-operators.ensures.operators in
    let some = c.get-operators.ensures.flow.some in
    let count : length ops - 1 + 1 ≡ length ops = omega (arith, some, ap length same) in
    let at : nth ops (length ops - 1 + 1) ≡ Some last = nth-here ops (length ops - 1) last (omega (arith, count)) c.index-operators-operators.is in
    c.in_ok-columns.ensures.cases ∙ sym (ap schema_of at) ∙ ap (λ n. columns_at ops n) count ∙ ap (λ (flow : List Operator). columns_at flow (length flow)) same
