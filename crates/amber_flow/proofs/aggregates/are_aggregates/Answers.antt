use Rattle.std.proofs.Common.{List, ℕ, Bor, rules, sym, ◌∙◌}
use borrow.Author.Tests.{tests}
use Rattle.std.proofs.lemmas.Iterator.{YieldsList-from_slice}
use Rattle.std.proofs.lemmas.Iterator.Search.{all_from_yields_List}
use Rattle.std.proofs.lemmas.List.Folds.{list_all-map}
use Rattle.amber_flow.specs.Aggregates.{is_agg_text}
use Rattle.amber_flow.proofs.aggregates.are_aggregates.Goals as goal

pub returns : goal.returns
returns c =
    let now = λ (text : Bor (List ℕ)). text.now in
    all_from_yields_List (λ (text : Bor (List ℕ)). is_agg_text text.now) _ _ _ c.all.ensures.ran (YieldsList-from_slice c.args.texts.now cc) (λ x b q k. search (rules, tests)) ∙ sym (list_all-map is_agg_text now c.args.texts.now)
