-- The few and the many are clones.
use Rattle.std.proofs.Common.{◌∙◌}
use Rattle.std.proofs.lemmas.List.Elements.{same_from_all_zip}
use Rattle.amber_group.specs.Totals.{totals_in}
use Rattle.amber_group.proofs.totals.TotalsClone.clone.Goals as goal

pub returns : goal.returns
returns c =
    let state = c.self.inside in
    let few = same_from_all_zip _ state.few c.in_ok-clone.field-0 c.in_ok-clone.ensures.cases.whole (λ x y e. e) in
    let many = same_from_all_zip _ state.many.items c.in_ok-clone-2.field-0.items c.in_ok-clone-2.ensures.cases.0 (λ x y e. e) in
    record { cases = (λ i. totals_in state.count (few i) (many i)) ∙ c.self.view_is }
