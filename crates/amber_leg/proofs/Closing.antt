-- A leg that was driven is closed.
use Rattle.std.proofs.Common.{◌≡◌, ◌⊎◌, refl, sym, ap, subst, ◌∙◌, ℕ, List, [], replicate, slice_index_or, Bool, true, false, inl, inr, arith}
use Rattle.std.specs.List.{sum}
use Rattle.amber_rows.specs.Topology.{crew_of}
use Rattle.amber_log.specs.declared.leg.Close.{Close}
use Rattle.amber_log.specs.declared.leg.Part.{Part}
use Rattle.amber_meaning.specs.InTime.{IsInTime, StopsInTime}
use Rattle.amber_meaning.specs.Legal.{leg_start, stops_in}
use Rattle.amber_meaning.specs.State.{State, arms_at, emitted_by, steps_in}
use Rattle.amber_home.specs.HomeState.{ClosesIn, HomeState, item_of_leg, leg_state, query_of, rest_state, runs_to_end, state_of, stops_of_home, with_closed_leg, with_item}
use Rattle.amber_home.specs.declared.phase.Counts.{Counts}
use Rattle.amber_home.specs.declared.phase.Counts.TheVariants.{Unarmed}
use Rattle.amber_home.specs.declared.phase.Phase.TheVariants as phase
use Rattle.amber_leg.specs.Leg.{AreOnTime, ClosesLeg, DrivesLeg, most_late, turned_at}

-- for how many turns each worker was driven in a leg that was just opened
abbrev pub undriven : HomeState → List ℕ
undriven e = replicate (crew_of e.flow) 0

module _ (to_end : Bool) (old : HomeState) (parts : List Part) (alone : ℕ) (turned : List ℕ) where
  -- a home in whose leg these parts were done
  abbrev within : Counts → HomeState
  within counts = record old { phase = phase.Open to_end counts; parts = parts; alone = alone; turned = turned }

  within-state : (counts : Counts) → state_of (within counts) ≡ leg_state old to_end parts
  unfolding state_of
  within-state counts = refl

module _ (old : HomeState) (parts : List Part) (alone : ℕ) (turned : List ℕ) (counts : Counts) (begins : state_of (record old { phase = phase.Open false Unarmed; parts = []; alone = 0; turned = undriven old }) ≡ leg_start false (rest_state old)) where
  begun-state : leg_state old false [] ≡ leg_start false (rest_state old)
  begun-state = sym (within-state false old [] 0 (undriven old) Unarmed) ∙ begins

  none-begun : stops_of_home (record old { phase = phase.Open false Unarmed; parts = []; alone = 0; turned = undriven old }) ≡ [] → stops_in (query_of old) (leg_start false (rest_state old)) ≡ []
  unfolding stops_of_home
  none-begun none = ap (stops_in (query_of old)) (sym begun-state) ∙ none

  arms-begun : (op : ℕ) → arms_at (leg_state old false parts) op ≡ arms_at (leg_start false (rest_state old)) op
  unfolding Rattle.amber_meaning.specs.Replay.after_leg
  arms-begun op = refl

  pub stops-in-time : (parts ≡ []) ⊎ ((stops_of_home (record old { phase = phase.Open false Unarmed; parts = []; alone = 0; turned = undriven old }) ≡ []) × AreOnTime (record old { phase = phase.Open false counts; parts = parts; alone = alone; turned = turned }))
      → StopsInTime (query_of old) most_late (leg_start false (rest_state old)) parts
  stops-in-time (inl none) = record {
    at_once = λ some. none;
    pauses = λ op n is.
        let same : emitted_by old.flow (leg_state old false parts) op ≡ emitted_by old.flow (leg_start false (rest_state old)) op =
        ap (λ ps. emitted_by old.flow (leg_state old false ps) op) none ∙ ap (λ s. emitted_by old.flow s op) begun-state in
        omega (arith, same);
  }
  stops-in-time (inr moved) = record {
    at_once = λ some. absurd (some (none-begun moved.0));
    pauses = λ op n is.
        let state = within-state false old parts alone turned counts in
        let most = moved.1 op n (ap (λ (s : State). (arms_at s op).pause) state ∙ ap (λ found. found.pause) (arms-begun op) ∙ is) in
        let same = ap (λ s. emitted_by old.flow s op) state in
        omega (arith, most, same);
  }

in-time : (to_end : Bool) (old : HomeState) (parts : List Part) (alone : ℕ) (turned : List ℕ) (counts : Counts) (closed : Close)
    → state_of (record old { phase = phase.Open to_end Unarmed; parts = []; alone = 0; turned = undriven old }) ≡ leg_start to_end (rest_state old)
    → (parts ≡ []) ⊎ ((stops_of_home (record old { phase = phase.Open to_end Unarmed; parts = []; alone = 0; turned = undriven old }) ≡ []) × AreOnTime (record old { phase = phase.Open to_end counts; parts = parts; alone = alone; turned = turned }))
    → IsInTime (query_of old) most_late (rest_state old) (item_of_leg to_end parts closed)
in-time true old parts alone turned counts closed begins time = tt
in-time false old parts alone turned counts closed begins time = stops-in-time old parts alone turned counts begins time

pub leg-closes : (to_end : Bool) (old begun ran new : HomeState) (closed : Close) → begun ≡ record old { phase = phase.Open to_end Unarmed; parts = []; alone = 0; turned = undriven old }
    → state_of begun ≡ leg_start to_end (rest_state old) → DrivesLeg begun ran → new ≡ with_closed_leg ran closed → ClosesIn (runs_to_end ran.phase) (query_of ran) (state_of ran) closed
    → ClosesLeg to_end old new closed
leg-closes to_end old begun ran new closed opens begins drives closes so =
    let same-alone : new.alone ≡ ran.alone = ap (λ (h : HomeState). h.alone) closes in
    let same-turned : new.turned ≡ ran.turned = ap (λ (h : HomeState). h.turned) closes in
    let workers : crew_of new.flow ≡ crew_of ran.flow = ap (λ (h : HomeState). crew_of h.flow) closes in
    let is : ran ≡ record old { phase = phase.Open to_end drives.counts; parts = ran.parts; alone = ran.alone; turned = ran.turned } =
    drives.only ∙ ap (λ (h : HomeState). record h { phase = phase.Open (runs_to_end h.phase) drives.counts; parts = ran.parts; alone = ran.alone; turned = ran.turned }) opens in
    record {
      parts = ran.parts;
      so = subst (λ s. ClosesIn to_end (query_of old) s closed) (within-state to_end old ran.parts ran.alone ran.turned drives.counts)
          (subst (λ (h : HomeState). ClosesIn (runs_to_end h.phase) (query_of h) (state_of h) closed) is so);
      driven = λ worker inside.
          let own = drives.driven.driven worker (omega (arith, inside, workers)) in
          let here : turned_at new worker ≡ turned_at ran worker = ap (λ ns. slice_index_or ns worker 0) same-turned in
          omega (arith, own, here, same-alone, workers);
      steps =
          let steps = drives.driven.steps in
          let start = ap steps_in begins in
          let end = ap steps_in (ap state_of is ∙ within-state to_end old ran.parts ran.alone ran.turned drives.counts) in
          let sums = ap sum same-turned in
          omega (arith, steps, start, end, sums, same-alone);
      in_time = in-time to_end old ran.parts ran.alone ran.turned drives.counts closed (ap state_of (sym opens) ∙ begins)
          (subst (λ (h : HomeState). (ran.parts ≡ h.parts) ⊎ ((stops_of_home h ≡ []) × AreOnTime (record old { phase = phase.Open to_end drives.counts; parts = ran.parts; alone = ran.alone; turned = ran.turned }))) opens
          (subst (λ (h : HomeState). (ran.parts ≡ begun.parts) ⊎ ((stops_of_home begun ≡ []) × AreOnTime h)) is drives.in_time));
      is = closes ∙ ap (λ (h : HomeState). with_closed_leg h closed) is
          ∙ (λ i. record old { log = with_item old.log (item_of_leg to_end ran.parts closed); phase = phase.Resting; parts = []; alone = sym same-alone i; turned = sym same-turned i });
    }
