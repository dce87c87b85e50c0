-- The workers are paused as the state says.
use Rattle.std.proofs.Common.{◌≡◌, refl, sym, ap, subst, ◌∙◌, ℕ, Bool, not, true, false}
use Rattle.amber_meaning.specs.State.{position_at}
use Rattle.amber_home.specs.HomeState.{HomeState, NoneIsPaused, has_crew, state_of}
use Rattle.amber_home.proofs.Commanded.{not-true}
use Rattle.amber_home.proofs.Free.{none-paused-home, paused-at}
use Rattle.amber_home.proofs.Inside.{all-there, kept, seen}
use Rattle.amber_home.proofs.home.Home.are_running.Goals as goal

pub any_paused-requires : goal.any_paused-requires
any_paused-requires c = record { workers = all-there c.self.inside c.self.invariant c.args.self.now c.self.view_is c.requires.there }

not-false : (b : Bool) → not b ≡ false → b ≡ true
not-false true e = refl
not-false false e = sym e

pub returns-clause-running : goal.returns-clause-running
returns-clause-running c is =
    let i = c.self.inside in
    subst NoneIsPaused c.self.view_is
    (none-paused-home (seen i) (kept i) i.phase c.self.invariant (ap (λ (h : HomeState). has_crew h.phase) c.self.view_is ∙ c.requires.there) refl
    (c.any_paused.ensures.none (not-true c.any_paused.result is)))

pub returns-clause-paused : goal.returns-clause-paused
returns-clause-paused c is =
    let i = c.self.inside in
    let found = c.any_paused.ensures.some (not-false c.any_paused.result is) in
    subst (λ (h : HomeState). (worker : ℕ) × ((position_at (state_of h).positions worker).restraint.paused ≡ true)) c.self.view_is
    (found.0, sym (paused-at (seen i) (kept i) i.phase c.self.invariant (ap (λ (h : HomeState). has_crew h.phase) c.self.view_is ∙ c.requires.there) refl found.0 found.1) ∙ found.2)
