-- The workers are held as the state says.
use Rattle.std.proofs.Common.{◌≡◌, ◌≢◌, refl, sym, ap, subst, ◌∙◌, ℕ, [], Bool, not, true, false, inl}
use Rattle.amber_meaning.specs.State.{position_at}
use Rattle.amber_home.specs.HomeState.{HomeState, NoneIsHeld, has_crew, is_open, state_of, stops_of_home}
use Rattle.amber_home.proofs.Commanded.{not-true}
use Rattle.amber_home.proofs.Free.{cut-home}
use Rattle.amber_home.proofs.PauseOver.{held-at, none-held-home}
use Rattle.amber_home.proofs.Inside.{all-there, kept, seen}
use Rattle.amber_home.proofs.home.Home.are_loose.Goals as goal

pub any_held-requires : goal.any_held-requires
any_held-requires c = record { workers = all-there c.self.inside c.self.invariant c.args.self.now c.self.view_is c.requires.there }

not-false : (b : Bool) → not b ≡ false → b ≡ true
not-false true e = refl
not-false false e = sym e

pub returns-clause-loose : goal.returns-clause-loose
returns-clause-loose c is =
    let i = c.self.inside in
    subst NoneIsHeld c.self.view_is
    (none-held-home (seen i) (kept i) i.phase c.self.invariant (ap (λ (h : HomeState). has_crew h.phase) c.self.view_is ∙ c.requires.there) refl
    (c.any_held.ensures.none (not-true c.any_held.result is)))

pub returns-clause-held : goal.returns-clause-held
returns-clause-held c is =
    let i = c.self.inside in
    let found = c.any_held.ensures.some (not-false c.any_held.result is) in
    subst (λ (h : HomeState). (worker : ℕ) × ((position_at (state_of h).positions worker).restraint.held ≡ true)) c.self.view_is
    (found.0, sym (held-at (seen i) (kept i) i.phase c.self.invariant (ap (λ (h : HomeState). has_crew h.phase) c.self.view_is ∙ c.requires.there) refl found.0 found.1) ∙ found.2)

pub returns-clause-stands : goal.returns-clause-stands
returns-clause-stands c is within =
    let i = c.self.inside in
    subst (λ (h : HomeState). stops_of_home h ≢ []) c.self.view_is
    (cut-home (seen i) (kept i) i.phase c.self.invariant (ap (λ (h : HomeState). is_open h.phase) c.self.view_is ∙ within) refl
    (inl (c.any_held.ensures.some (not-false c.any_held.result is))))
