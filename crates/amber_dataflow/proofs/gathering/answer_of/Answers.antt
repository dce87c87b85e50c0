-- A stable sort leaves refusals in their order.
use Rattle.std.proofs.Common.{◌≡◌, ◌∙◌, ap, rules, Bool}
use Rattle.std.specs.Ordering.{is_lt}
use Rattle.std.proofs.lemmas.Fn.{always_returns_same}
use Rattle.std.proofs.lemmas.List.Sorted.{ranks_by}
use Rattle.amber_meaning.specs.declared.answer.Refusal.{Refusal}
use Rattle.amber_dataflow.specs.Answers.{refusal_cmp, sort_refusals}
use Rattle.amber_dataflow.proofs.SortedRefusals.{refusal-total, sorted-refusals}
use Rattle.amber_dataflow.proofs.gathering.answer_of.Goals as goal

pub returns-clause-refused : goal.returns-clause-refused
returns-clause-refused c =
    let less : Refusal → Refusal → Bool = λ x y. is_lt (refusal_cmp x y) in
    let order = ranks_by refusal-total (λ (x : Refusal). x) in
    let answers = always_returns_same _ (λ a r. is_lt r ≡ less a.0.now a.1.0.now) _ (λ a r q k. search rules) in
    c.new.ensures
    ∙ sorted-refusals c.into_vec-refused.result.items c.sort_by.new.self.items
    (c.in_ok-sort_by.ensures.sorted less order answers) (c.sort_by.ensures.stable less order answers)
    ∙ ap sort_refusals c.into_vec-refused.ensures
