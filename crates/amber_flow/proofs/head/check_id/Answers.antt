use Rattle.std.proofs.Common.{sym, ap, ◌∙◌, is_some}
use Rattle.amber_flow.specs.Operators.{new_id}
use Rattle.amber_flow.proofs.OperatorFacts.{id-found}
use Rattle.amber_flow.proofs.head.check_id.Goals as goal

pub returns-then-is_some-clause-checked : goal.returns-then-is_some-clause-checked
unfolding new_id
returns-then-is_some-clause-checked c =
    let taken = c.if-is_some.ensures ∙ ap is_some c.find_operator.ensures.number ∙ id-found c.args.id.now c.args.before.now in
    rw (← c.if-not-is_operator_id.ensures, ← taken)

pub returns-clause-checked : goal.returns-clause-checked
unfolding new_id
returns-clause-checked c =
    let fresh = c.if-is_some.ensures ∙ ap is_some c.find_operator.ensures.number ∙ id-found c.args.id.now c.args.before.now in
    rw (← c.if-not-is_operator_id.ensures, ← fresh)

pub returns-clause-fresh : goal.returns-clause-fresh
returns-clause-fresh c = sym (c.if-is_some.ensures ∙ ap is_some c.find_operator.ensures.number ∙ id-found c.args.id.now c.args.before.now)
