use Rattle.std.proofs.Common.{ℕ, ◌+◌, option_map, bytes_eq, rules, sym, ap, ◌∙◌}
use Rattle.std.proofs.lemmas.Iterator.{YieldsList-from_slice}
use Rattle.std.proofs.lemmas.Iterator.Search.{position_from_yields_List}
use Rattle.amber_rows.specs.declared.flow.Operator.{Operator}
use Rattle.amber_flow.proofs.inputs.find_operator.Goals as goal

pub returns-in-None-clause-number : goal.returns-in-None-clause-number
returns-in-None-clause-number c =
    let found = position_from_yields_List (λ (operator : Operator). bytes_eq operator.id c.args.id.now) _ _ c.position.result c.position.ensures.ran (YieldsList-from_slice c.args.before.now cc) (λ x b q k. search rules) in
    ap (option_map (λ (index : ℕ). index + 1)) (sym c.in-None.is ∙ found)

pub returns-in-Some-clause-number : goal.returns-in-Some-clause-number
returns-in-Some-clause-number c =
    let found = position_from_yields_List (λ (operator : Operator). bytes_eq operator.id c.args.id.now) _ _ c.position.result c.position.ensures.ran (YieldsList-from_slice c.args.before.now cc) (λ x b q k. search rules) in
    ap (option_map (λ (index : ℕ). index + 1)) (sym c.in-Some.is ∙ found)
