use Rattle.std.proofs.Common.{List, ℕ, Bor, is_some, map, refl, sym, ap, ◌∙◌}
use Rattle.std.specs.List.{list_all}
use Rattle.amber_rows.specs.Columns.{agg_kind}
use Rattle.amber_rows.specs.declared.agg.Agg.{Agg}
use Rattle.amber_flow.specs.Groups.{group_over}
use Rattle.amber_flow.proofs.GroupFacts.{group-kind}
use Rattle.amber_flow.proofs.ReadFacts.{handed_on, ok_or-some}
use Rattle.amber_flow.proofs.group.read_over.Goals as goal

pub returns-in_err-keys-clause-parts : goal.returns-in_err-keys-clause-parts
unfolding group_over
returns-in_err-keys-clause-parts c =
    handed_on c.from_residual.result c.in_err-keys.field-0.0 _ _ c.from_residual.ensures.1 c.in_err-keys.ensures (λ why is. rw (← is))

pub returns-in_err-aggs-clause-parts : goal.returns-in_err-aggs-clause-parts
unfolding group_over
returns-in_err-aggs-clause-parts c =
    rw (← c.in_ok-keys.ensures)
    (handed_on c.from_residual-in_err-aggs.result c.in_err-aggs.field-0.0 _ _ c.from_residual-in_err-aggs.ensures.1 c.in_err-aggs.ensures (λ why is. rw (← is)))

pub returns-then-not-are_summable-clause-parts : goal.returns-then-not-are_summable-clause-parts
unfolding group_over
returns-then-not-are_summable-clause-parts c =
    let summed = rw c.get.ensures at c.if-not-are_summable.ensures in
    rw (← c.in_ok-keys.ensures, ← c.in_ok-aggs.ensures, ← summed) refl

pub returns-clause-parts : goal.returns-clause-parts
unfolding group_over
returns-clause-parts c =
    let summed = rw c.get.ensures at c.if-not-are_summable.ensures in
    rw (← c.in_ok-keys.ensures, ← c.in_ok-aggs.ensures, ← summed, c.in_ok-schema.ensures) refl

pub returns-clause-kind : goal.returns-clause-kind
returns-clause-kind c =
    let now = λ (name : Bor (List ℕ)). name.now in
    let columns = c.args.columns.now in
    let keys = c.in_ok-keys.keys in
    let aggs = c.in_ok-aggs.aggs in
    let summed = ap (list_all (λ (agg : Agg). is_some (agg_kind columns agg))) (sym c.get.ensures) ∙ sym c.if-not-are_summable.ensures in
    λ before earlier has. group-kind before c.args.input columns (map now c.args.names.now) (map now c.args.texts.now) keys keys aggs aggs c.in_ok-schema.schema earlier has
    (ok_or-some _ _ _ c.in_ok-keys.ensures) (ok_or-some _ _ _ c.in_ok-aggs.ensures) summed refl refl c.in_ok-schema.ensures
