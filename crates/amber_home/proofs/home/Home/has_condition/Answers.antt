-- The conditions that are kept are those of the state.
use Rattle.std.proofs.Common.{◌≡◌, refl, sym, ap, subst, ◌∙◌, ℕ, None, is_some, true}
use Rattle.amber_meaning.specs.State.{arms_at}
use Rattle.amber_home.specs.Asked.{Asked}
use Rattle.amber_home.specs.HomeState.{HomeState, has_crew, state_of}
use Rattle.amber_home.proofs.AnyAsked.{none-asked, none-of, some-asked}
use Rattle.amber_home.proofs.Inside.{kept, seen}
use Rattle.amber_home.proofs.Saying.{stands-somewhere}
use Rattle.amber_home.proofs.home.Home.has_condition.Goals as goal

pub returns-clause-none : goal.returns-clause-none
returns-clause-none c is op =
    let i = c.self.inside in
    let h = stands-somewhere (seen i) (kept i) i.phase c.self.invariant (ap (λ (h : HomeState). has_crew h.phase) c.self.view_is ∙ c.requires.there) in
    subst (λ (h : HomeState). (arms_at (state_of h) op).when ≡ None) c.self.view_is
    (sym (h.in_force.each op).when ∙ none-of _ (none-asked (λ (asked : Asked). is_some asked.when) i.arms (sym c.has_condition.ensures ∙ is) refl op))

pub returns-clause-some : goal.returns-clause-some
returns-clause-some c is =
    let i = c.self.inside in
    let h = stands-somewhere (seen i) (kept i) i.phase c.self.invariant (ap (λ (h : HomeState). has_crew h.phase) c.self.view_is ∙ c.requires.there) in
    let found = some-asked (λ (asked : Asked). is_some asked.when) i.arms (sym c.has_condition.ensures ∙ is) in
    subst (λ (h : HomeState). (op : ℕ) × (is_some (arms_at (state_of h) op).when ≡ true)) c.self.view_is
    (found.0, ap is_some (sym (h.in_force.each found.0).when) ∙ found.1)
