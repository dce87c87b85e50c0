-- The counts that are kept are those of the state.
use Rattle.std.proofs.Common.{◌≡◌, sym, ap, subst, ◌∙◌, ℕ, refl, List, Option, None, Some, is_some, true}
use Rattle.amber_boards.specs.declared.target.Target.{Target}
use Rattle.amber_meaning.specs.Position.{Position}
use Rattle.amber_meaning.specs.State.{Counting, arms_at}
use Rattle.amber_home.specs.Asked.{Asked, IsCountOf}
use Rattle.amber_home.specs.HomeState.{HomeState, has_crew, state_of}
use Rattle.amber_home.proofs.AnyAsked.{none-asked, none-of, some-asked}
use Rattle.amber_home.proofs.Inside.{kept, seen}
use Rattle.amber_home.proofs.Saying.{stands-somewhere}
use Rattle.amber_home.proofs.home.Home.has_count.Goals as goal

no-count : (crew : List Position) (asked : Option Target) (counting : Option Counting) → IsCountOf crew asked counting → asked ≡ None → counting ≡ None
no-count crew None None of is = refl
no-count crew None (Some counting) of is = absurd of
no-count crew (Some target) None of is = refl
no-count crew (Some target) (Some counting) of is = absurd (cc is)

a-count : (crew : List Position) (asked : Option Target) (counting : Option Counting) → IsCountOf crew asked counting → is_some asked ≡ true → is_some counting ≡ true
a-count crew None None of is = is
a-count crew None (Some counting) of is = absurd of
a-count crew (Some target) None of is = absurd of
a-count crew (Some target) (Some counting) of is = refl

pub returns-clause-none : goal.returns-clause-none
returns-clause-none c is op =
    let i = c.self.inside in
    let h = stands-somewhere (seen i) (kept i) i.phase c.self.invariant (ap (λ (h : HomeState). has_crew h.phase) c.self.view_is ∙ c.requires.there) in
    subst (λ (h : HomeState). (arms_at (state_of h) op).count ≡ None) c.self.view_is
    (no-count _ _ _ (h.in_force.each op).count (none-of _ (none-asked (λ (asked : Asked). is_some asked.count) i.arms (sym c.has_count.ensures ∙ is) refl op)))

pub returns-clause-some : goal.returns-clause-some
returns-clause-some c is =
    let i = c.self.inside in
    let h = stands-somewhere (seen i) (kept i) i.phase c.self.invariant (ap (λ (h : HomeState). has_crew h.phase) c.self.view_is ∙ c.requires.there) in
    let found = some-asked (λ (asked : Asked). is_some asked.count) i.arms (sym c.has_count.ensures ∙ is) in
    subst (λ (h : HomeState). (op : ℕ) × (is_some (arms_at (state_of h) op).count ≡ true)) c.self.view_is
    (found.0, a-count _ _ _ (h.in_force.each found.0).count found.1)
