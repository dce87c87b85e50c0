-- A leg that was done again is closed, or may not be.
use Rattle.std.proofs.Common.{◌≡◌, refl, sym, ap, subst, ◌∙◌, Bool, true, false, None, Some}
use Rattle.amber_lines.specs.Lines.{Between, judge_close}
use Rattle.amber_log.specs.declared.leg.Close.{Close}
use Rattle.amber_log.specs.declared.leg.Close.TheVariants as close
use Rattle.amber_home.specs.HomeState.{ClosesIn, HomeState, MayClose, leg_state, query_of, rest_state, runs_to_end, spent_at, state_of, stops_of_home, with_closed_leg}
use Rattle.amber_home.specs.Redoing.{ClosesRedone, IsJudged, TellsClose, may_redo}
use Rattle.amber_home.specs.declared.phase.Counts.TheVariants.{Disarmed}
use Rattle.amber_home.specs.declared.phase.Phase.TheVariants as phase
use Rattle.amber_home.proofs.RedoneHomes.{state-of-leg}

-- where a leg may be closed so, the calls tell it
closes-may : (to_end : Bool) (e : HomeState) (closed : Close) → ClosesIn to_end (query_of e) (state_of (record e { phase = phase.Open to_end Disarmed })) closed
    → MayClose to_end (record e { phase = phase.Open to_end Disarmed }) closed
unfolding state_of stops_of_home
closes-may true e close.Cut closes = closes.2
closes-may true e close.Long closes = (closes.1, closes.2)
closes-may false e close.Cut closes = closes.2
closes-may false e close.Long closes = (closes.1, closes.2)

module _ (old mid : HomeState) (may : may_redo old.phase ≡ true) (is : mid ≡ record old { phase = phase.Open (runs_to_end old.phase) Disarmed }) (closed : Close) where
  -- in the same state
  same-state : state_of (record old { phase = phase.Open (runs_to_end old.phase) Disarmed }) ≡ state_of old
  unfolding state_of
  same-state = sym (state-of-leg old may)

  same-judge : judge_close (query_of mid) (runs_to_end mid.phase) (state_of mid) closed ≡ judge_close (query_of old) (runs_to_end old.phase) (state_of old) closed
  same-judge =
      ap (λ (h : HomeState). judge_close (query_of h) (runs_to_end h.phase) (state_of h) closed) is
      ∙ ap (λ s. judge_close (query_of old) (runs_to_end old.phase) s closed) same-state

  pub spent-mid : (new : HomeState) → new ≡ spent_at mid → new ≡ spent_at old
  spent-mid new spent = spent ∙ ap spent_at is

  module _ (judged : IsJudged mid closed) where
    pub closed-mid : (new : HomeState) → new ≡ with_closed_leg mid closed → ClosesIn (runs_to_end mid.phase) (query_of mid) (state_of mid) closed → ClosesRedone closed old new true
    closed-mid new now closes = (
      now ∙ ap (λ (h : HomeState). with_closed_leg h closed) is,
      sym same-judge ∙ judged.closes closes ∙ ap (λ (h : HomeState). Some (Between (rest_state h))) (sym now),
    )

    pub refused-mid : (new : HomeState) → new ≡ spent_at mid → TellsClose mid closed false → ClosesRedone closed old new false
    refused-mid new spent not = (
      spent-mid new spent,
      sym same-judge ∙ judged.refuses (λ closes. told (subst (λ (h : HomeState). ClosesIn (runs_to_end h.phase) (query_of h) (state_of h) closed) is closes)),
    )
      where
        told : ClosesIn (runs_to_end old.phase) (query_of old) (state_of (record old { phase = phase.Open (runs_to_end old.phase) Disarmed })) closed → ⊥
        told closes = subst (λ (h : HomeState). MayClose (runs_to_end h.phase) h closed → ⊥) is not (closes-may (runs_to_end old.phase) old closed closes)
