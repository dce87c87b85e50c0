-- A home makes a step: its workers may, and it stays one.
use Rattle.std.proofs.Common.{◌≡◌, ◌⊎◌, refl, sym, ap, subst, ◌∙◌, ℕ, ◌<◌, ◌≤◌, List, [], ◌∷◌, Bool, true, Option, None, Some, is_some, inl, inr, arith}
use Rattle.amber_rows.specs.Topology.{op_of}
use Rattle.amber_meaning.specs.Legal.{IsLegal}
use Rattle.amber_meaning.specs.State.{State, arms_at, crew_at, steps_in}
use Rattle.amber_meaning.proofs.Crews.{op-within}
use Rattle.amber_dataflow.specs.AtWork.{state_reached}
use Rattle.amber_dataflow.specs.Dataflow.{DataflowState, leg_parts, rows_emitted, seat_of, step_count}
use Rattle.amber_boards.specs.Boards.{AreBelow, AreUnarmed, AreWithinTargets, CounterState, IsBelow, IsCountedAt, IsWithinTarget, IsWorkerOf, board_at, target_at, target_of_count, targets_of}
use Rattle.amber_boards.specs.declared.target.Target.{Target}
use Rattle.amber_home.specs.Asked.{Asked}
use Rattle.amber_home.specs.Going.{AreReady, GoOn, StepsNext}
use Rattle.amber_home.specs.HomeState.{AreArmed, HomeState, NoneIsCounted, StepsOn, counts_in, is_open, alone_more, query_of, runs_to_end, state_of}
use Rattle.amber_home.specs.Kept.{CountsStand, HaveNoUnits, IsHome, IsWithinLeg, LiveState}
use Rattle.amber_home.specs.Leg.{count_at, counts_asked}
use Rattle.amber_home.specs.Parts.{open_parts}
use Rattle.amber_home.specs.declared.phase.Counts.{Counts}
use Rattle.amber_home.specs.declared.phase.Counts.TheVariants.{Armed, Disarmed, Unarmed}
use Rattle.amber_home.specs.declared.phase.Phase.{Phase}
use Rattle.amber_home.specs.declared.phase.Phase.TheVariants as phase
use Rattle.amber_home.proofs.Armings.{all-empty}
use Rattle.amber_home.proofs.Counted.{count-none}
use Rattle.amber_home.proofs.Homes.{IsLeg, home-with, in-open, leg-on}
use Rattle.amber_home.proofs.Legs.{start, within-on}
use Rattle.amber_home.proofs.OneMore.{at_work, reached-here, steps-on, steps-within, within-most}
use Rattle.amber_home.proofs.Reached.{in-force-reached, target-asked}
use Rattle.amber_home.proofs.Ready.{ready-none}

-- ---- its workers may

module _ (e : HomeState) (live : LiveState) (now : Phase) (leg : IsLeg e live (runs_to_end now) (counts_in now)) (within : is_open now ≡ true) where
  -- the home as it is seen
  abbrev pub here : HomeState
  here = record e { phase = now; parts = open_parts now live }

  abbrev there : HomeState
  there = at_work (runs_to_end now) (counts_in now) e live.dataflow live.arms leg.leg leg.legal

  pub few-step : steps_in (state_of here) < e.most → step_count live.dataflow < e.most
  few-step less =
      let made = steps-within (runs_to_end now) (counts_in now) e live.dataflow live.arms leg.leg leg.legal in
      let few = subst (λ (h : HomeState). steps_in (state_of h) < e.most) (in-open e live now within) less in
      omega arith

  -- where no count is in force none is kept
  none-kept : NoneIsCounted there → (op : ℕ) → count_at live.arms op ≡ None
  none-kept none op =
      let query = query_of e in
      let begin = start (runs_to_end now) e live.dataflow live.arms leg.leg leg.legal in
      let reached = state_reached query begin leg.leg.positions in
      count-none (crew_at query.flow reached op) (count_at live.arms op) (arms_at reached op).count
      ((in-force-reached query begin live.dataflow leg.leg.positions leg.leg.at live.arms leg.leg.in_force).each op).count
      (ap (λ (s : State). (arms_at s op).count) (sym (reached-here (runs_to_end now) (counts_in now) e live.dataflow live.arms leg.leg leg.legal)) ∙ none op)

  armed-none : AreArmed here → (counts_in now ≡ Armed) ⊎ ((op : ℕ) → count_at live.arms op ≡ None)
  armed-none armed = elim (subst AreArmed (in-open e live now within) armed) [ inl is ↦ inl is | inr none ↦ inr (none-kept none) ]

-- the workers are ready
ready-by : (live : LiveState) (counts : Counts) → CountsStand counts live.arms live.boards live.dataflow → (counts ≡ Armed) ⊎ ((op : ℕ) → count_at live.arms op ≡ None) → AreReady live.arms live.boards live.dataflow
ready-by live Armed stand armed = stand
ready-by live Unarmed stand (inl is) = absurd (cc is)
ready-by live Unarmed stand (inr none) =
    subst (λ boards. AreReady live.arms boards live.dataflow) (sym stand.1.none) (ready-none live.arms live.dataflow stand.1.unarmed none)
ready-by live Disarmed stand (inl is) = absurd (cc is)
ready-by live Disarmed stand (inr none) =
    subst (λ boards. AreReady live.arms boards live.dataflow) (sym stand.1.none) (ready-none live.arms live.dataflow stand.1.unarmed none)

pub ready-step : (e : HomeState) (live : LiveState) (now : Phase) → IsLeg e live (runs_to_end now) (counts_in now) → is_open now ≡ true
    → AreArmed (record e { phase = now; parts = open_parts now live }) → AreReady live.arms live.boards live.dataflow
ready-step e live now leg within armed = ready-by live (counts_in now) leg.stand (armed-none e live now leg within armed)

-- ---- how counts stand after it

-- what is below its targets is within them
below-within : (counts : List (Option Target)) (d : DataflowState) → AreBelow counts d → AreWithinTargets counts d
below-within counts d below op = by (target_at counts op) (rows_emitted d op) (below op)
  where
    by : (count : Option Target) (rows : ℕ) → IsBelow count rows → IsWithinTarget count rows
    by None rows below = tt
    by (Some count) rows below = (below.0, let less = below.1 in omega arith)

-- nobody has a seat where no count is kept
unarmed-by : (found : Option CounterState) (op : ℕ) (d : DataflowState) (worker : ℕ) → IsCountedAt found op d → target_of_count found ≡ None → IsWorkerOf d op worker → seat_of d worker ≡ None
unarmed-by None op d worker unarmed none own = unarmed worker own
unarmed-by (Some counter) op d worker on none own = absurd (cc none)

unarmed-ready : (arms : List Asked) (boards : List (Option CounterState)) (d : DataflowState) → AreReady arms boards d → ((op : ℕ) → count_at arms op ≡ None) → AreUnarmed d
unarmed-ready arms boards d ready none worker inside =
    let op = op_of d.flow worker in
    let placed = op-within d.flow worker inside in
    unarmed-by (board_at boards op) op d worker (ready.counted.each op placed.0 placed.1) (ready.targets op ∙ none op) (inside, refl)

no-boards : (old new : List (Option CounterState)) → targets_of new ≡ targets_of old → old ≡ [] → new ≡ []
no-boards old [] same none = refl
no-boards old (found ∷ new) same none = absurd (cc (same ∙ ap targets_of none))

module _ (e : HomeState) (live : LiveState) (to_end : Bool) (after : DataflowState) (boards : List (Option CounterState)) (legal : IsLegal (query_of e) e.log)
    (later : IsWithinLeg to_end e after live.arms) (ready : AreReady live.arms boards after) (same : targets_of boards ≡ targets_of live.boards) where
  no-units : ((op : ℕ) → count_at live.arms op ≡ None) → HaveNoUnits live.boards live.dataflow → HaveNoUnits boards after
  no-units none units = record {
    none = no-boards live.boards boards same units.none;
    unarmed = unarmed-ready live.arms boards after ready none;
    empty = all-empty to_end e after live.arms later legal (λ worker inside counted. absurd (cc (sym (ap is_some (none (op_of after.flow worker))) ∙ counted)));
  }

  below-none : ((op : ℕ) → count_at live.arms op ≡ None) → AreBelow (counts_asked live.arms) after
  below-none none op = subst (λ count. IsBelow count (rows_emitted after op)) (sym (target-asked live.arms op ∙ none op)) tt

  stand-step : (counts : Counts) → CountsStand counts live.arms live.boards live.dataflow → (counts ≡ Armed) ⊎ ((op : ℕ) → count_at live.arms op ≡ None) → CountsStand counts live.arms boards after
  stand-step Armed stand armed = ready
  stand-step Unarmed stand (inl is) = absurd (cc is)
  stand-step Unarmed stand (inr none) = (below-none none, no-units none stand.1)
  stand-step Disarmed stand (inl is) = absurd (cc is)
  stand-step Disarmed stand (inr none) = (below-within (counts_asked live.arms) after (below-none none), no-units none stand.1)

-- ---- the home after it

module _ (e : HomeState) (live : LiveState) (now : Phase) (leg : IsLeg e live (runs_to_end now) (counts_in now)) (within : is_open now ≡ true)
    (armed : AreArmed (record e { phase = now; parts = open_parts now live })) (few : step_count live.dataflow < e.most)
    (after : DataflowState) (boards : List (Option CounterState)) (flow : live.dataflow.flow ≡ e.flow) (on : GoOn live.arms live.dataflow after)
    (next : StepsNext live.boards live.dataflow after) (ready : AreReady live.arms boards after) (same : targets_of boards ≡ targets_of live.boards) where
  abbrev was : AreReady live.arms live.boards live.dataflow
  was = ready-step e live now leg within armed

  most : step_count after ≤ e.most
  most = within-most e live (runs_to_end now) (counts_in now) leg after boards was.targets few on next

  later : IsWithinLeg (runs_to_end now) e after live.arms
  later = within-on (runs_to_end now) e live.dataflow after live.arms leg.leg on most

  abbrev kept_then : LiveState
  kept_then = record live { dataflow = after; boards = boards }

  leg-then : IsLeg e kept_then (runs_to_end now) (counts_in now)
  leg-then =
      leg-on e live (runs_to_end now) (counts_in now) (counts_in now) leg after boards on most
      (stand-step e live (runs_to_end now) after boards leg.legal later ready same (counts_in now) leg.stand (armed-none e live now leg within armed))

  pub home-stepped : IsHome (record e { flow = after.flow; phase = now; parts = open_parts now kept_then; alone = alone_more e.alone }) kept_then
  home-stepped =
      subst (λ (h : HomeState). IsHome h kept_then) (sym (in-open (record e { flow = after.flow; alone = alone_more e.alone }) kept_then now within))
      (home-with e kept_then (runs_to_end now) (counts_in now) after.flow (alone_more e.alone) (on.flow ∙ flow) leg-then)

  pub steps-stepped : StepsOn (record e { phase = now; parts = open_parts now live })
      (record e { flow = after.flow; phase = now; parts = open_parts now kept_then; alone = alone_more e.alone })
  steps-stepped =
      subst (λ (h : HomeState). StepsOn h (record e { flow = after.flow; phase = now; parts = open_parts now kept_then; alone = alone_more e.alone })) (sym (in-open e live now within))
      (subst (StepsOn (at_work (runs_to_end now) (counts_in now) e live.dataflow live.arms leg.leg leg.legal)) (sym (in-open (record e { flow = after.flow; alone = alone_more e.alone }) kept_then now within))
      (subst (λ f. StepsOn (at_work (runs_to_end now) (counts_in now) e live.dataflow live.arms leg.leg leg.legal)
      (record e { flow = f; phase = phase.Open (runs_to_end now) (counts_in now); parts = leg_parts after; alone = alone_more e.alone })) (sym (on.flow ∙ flow))
      (steps-on e live (runs_to_end now) (counts_in now) leg after boards was.targets few on next later)))
