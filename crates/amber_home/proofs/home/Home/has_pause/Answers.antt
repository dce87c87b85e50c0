-- The pauses that are kept are those of the state.
use Rattle.std.proofs.Common.{◌≡◌, refl, sym, ap, subst, ◌∙◌, ℕ, None, Some, is_some}
use Rattle.amber_meaning.specs.State.{arms_at}
use Rattle.amber_home.specs.Asked.{Asked}
use Rattle.amber_home.specs.HomeState.{HomeState, has_crew, state_of}
use Rattle.amber_home.proofs.AnyAsked.{none-asked, none-of, some-asked, some-of}
use Rattle.amber_home.proofs.Inside.{kept, seen}
use Rattle.amber_home.proofs.Saying.{stands-somewhere}
use Rattle.amber_home.proofs.home.Home.has_pause.Goals as goal

pub returns-clause-none : goal.returns-clause-none
returns-clause-none c is op =
    let i = c.self.inside in
    let h = stands-somewhere (seen i) (kept i) i.phase c.self.invariant (ap (λ (h : HomeState). has_crew h.phase) c.self.view_is ∙ c.requires.there) in
    subst (λ (h : HomeState). (arms_at (state_of h) op).pause ≡ None) c.self.view_is
    (sym (h.in_force.each op).pause ∙ none-of _ (none-asked (λ (asked : Asked). is_some asked.pause) i.arms (sym c.has_pause.ensures ∙ is) refl op))

pub returns-clause-some : goal.returns-clause-some
returns-clause-some c is =
    let i = c.self.inside in
    let h = stands-somewhere (seen i) (kept i) i.phase c.self.invariant (ap (λ (h : HomeState). has_crew h.phase) c.self.view_is ∙ c.requires.there) in
    let found = some-asked (λ (asked : Asked). is_some asked.pause) i.arms (sym c.has_pause.ensures ∙ is) in
    let armed = some-of _ found.1 in
    subst (λ (h : HomeState). (op : ℕ) × (n : ℕ) × ((arms_at (state_of h) op).pause ≡ Some n)) c.self.view_is
    (found.0, armed.0, sym (h.in_force.each found.0).pause ∙ armed.1)
