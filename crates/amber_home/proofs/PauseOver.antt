-- Within a leg whoever was paused goes on.
use Rattle.std.proofs.Common.{◌≡◌, refl, sym, ap, subst, ◌∙◌, ℕ, ◌-◌, ◌<◌, ◌≤◌, List, Bool, true, false, Option, inl, inr, if◌then◌else◌, arith}
use Rattle.std.proofs.lemmas.Bool.{cases_lt}
use Rattle.amber_rows.specs.Topology.{crew_of, first_worker_of, op_of}
use Rattle.amber_rows.specs.declared.flow.Operator.{Operator}
use Rattle.amber_meaning.specs.Legal.{entries_of}
use Rattle.amber_meaning.specs.Position.{Position, Restraint}
use Rattle.amber_meaning.specs.State.{State, position_at}
use Rattle.amber_meaning.specs.Stops.{held_stop}
use Rattle.amber_worker.specs.WorkerState.{WorkerState}
use Rattle.amber_worker.specs.Changes.{resumed_at}
use Rattle.amber_dataflow.specs.AtWork.{worker_state_at}
use Rattle.amber_dataflow.specs.Dataflow.{AreInArmedLeg, DataflowState, StandAgain, all_resumed, is_held, is_paused, journal_of, step_count}
use Rattle.amber_dataflow.proofs.Reached.{listed-past}
use Rattle.amber_dataflow.proofs.Resumed.{resumed-all, resumed-at, resumed-rows, resumed-running, resumed-steps}
use Rattle.amber_dataflow.proofs.Standing.{journal-entries, stand-position}
use Rattle.amber_boards.specs.Boards.{CounterState}
use Rattle.amber_home.specs.Asked.{Asked}
use Rattle.amber_home.specs.Going.{AreAsFar}
use Rattle.amber_home.specs.HomeState as home_state
use Rattle.amber_home.specs.HomeState.{HomeState, NoneIsHeld, ResumesLeg, counts_in, has_crew, is_open, query_of, runs_to_end, state_of, stops_of_home, with_resume}
use Rattle.amber_home.specs.Kept.{CountsStand, IsHome, LiveState}
use Rattle.amber_home.specs.Leg.{counts_asked, stop_of_worker}
use Rattle.amber_home.specs.Parts.{open_parts}
use Rattle.amber_home.specs.declared.phase.Counts.{Counts}
use Rattle.amber_home.specs.declared.phase.Counts.TheVariants.{Armed, Disarmed, Unarmed}
use Rattle.amber_home.specs.declared.phase.Phase.{Phase}
use Rattle.amber_home.proofs.Armings.{stands-leg}
use Rattle.amber_home.proofs.AsFar.{far-by, far-home}
use Rattle.amber_home.proofs.Free.{none-paused-home, past-loose, paused-at}
use Rattle.amber_home.proofs.Going.{resumed-on}
use Rattle.amber_home.proofs.Homes.{IsLeg, home-of, home-there, in-open, leg-of, leg-on, open-there}
use Rattle.amber_home.proofs.NextStep.{ready-step}
use Rattle.amber_home.proofs.Ready.{all-armed, ready-resumed}
use Rattle.amber_home.proofs.Reached.{restraint-at}
use Rattle.amber_home.proofs.Saying.{in_phase, stands-somewhere}
use Rattle.amber_home.proofs.Units.{below-kept, empty-kept, keep-resumed, unarmed-kept, within-kept}

-- ---- counts stand as they did

counts-resumed : (counts : Counts) (arms : List Asked) (boards : List (Option CounterState)) (d : DataflowState) → CountsStand counts arms boards d → CountsStand counts arms boards (all_resumed d)
counts-resumed Unarmed arms boards d stand = (
  below-kept d (all_resumed d) (keep-resumed d) (counts_asked arms) stand.0,
  record { none = stand.1.none; unarmed = unarmed-kept d (all_resumed d) (keep-resumed d) stand.1.unarmed; empty = empty-kept d (all_resumed d) (keep-resumed d) stand.1.empty },
)
counts-resumed Armed arms boards d stand = ready-resumed arms boards d stand
counts-resumed Disarmed arms boards d stand = (
  within-kept d (all_resumed d) (keep-resumed d) (counts_asked arms) stand.0,
  record { none = stand.1.none; unarmed = unarmed-kept d (all_resumed d) (keep-resumed d) stand.1.unarmed; empty = empty-kept d (all_resumed d) (keep-resumed d) stand.1.empty },
)

-- ---- each worker has the stop that it had

module _ (d : DataflowState) where
  stop-resumed : (worker : ℕ) → stop_of_worker (all_resumed d) worker ≡ stop_of_worker d worker
  stop-resumed worker =
      ap (λ (w : WorkerState). held_stop (op_of d.flow worker) (worker - first_worker_of d.flow (op_of d.flow worker)) w.restraint.held w.pending) (resumed-at d.workers worker)
      ∙ by (worker_state_at d.workers worker) (worker_state_at d.workers worker).restraint.paused
    where
      by : (w : WorkerState) (b : Bool)
          → held_stop (op_of d.flow worker) (worker - first_worker_of d.flow (op_of d.flow worker)) (if b then resumed_at w else w).restraint.held (if b then resumed_at w else w).pending
          ≡ held_stop (op_of d.flow worker) (worker - first_worker_of d.flow (op_of d.flow worker)) w.restraint.held w.pending
      by w true = refl
      by w false = refl

  -- so all are as far as they were
  pub far-resumed : (arms : List Asked) → AreAsFar arms d (all_resumed d)
  far-resumed arms = far-by arms d (all_resumed d) refl (resumed-rows d) (resumed-all d) stop-resumed (resumed-steps d)

-- ---- the home

module _ (e : HomeState) (live : LiveState) where
  -- a worker that is there is held as its position is
  pub held-at : (now : Phase) → IsHome (record e { phase = now }) live → has_crew now ≡ true → live.dataflow.flow ≡ e.flow → (worker : ℕ) → worker < crew_of live.dataflow.flow
      → is_held live.dataflow worker ≡ (position_at (state_of (in_phase e live now)).positions worker).restraint.held
  unfolding is_held
  held-at now home there same worker inside =
      let h = stands-somewhere e live now home there in
      let d = live.dataflow in
      let within : worker < crew_of (query_of e).flow = subst (λ f. worker < crew_of f) same inside in
      ap (λ (r : Restraint). r.held) (restraint-at (query_of e) h.start d h.positions h.at worker within)
      ∙ ap (λ (p : Position). p.restraint.held) (sym (stand-position (query_of e) h.start d h.positions h.at worker within))
      ∙ ap (λ (s : State). (position_at s.positions worker).restraint.held) (sym h.reached)

  -- where no worker is held, no position is
  pub none-held-home : (now : Phase) → IsHome (record e { phase = now }) live → has_crew now ≡ true → live.dataflow.flow ≡ e.flow
      → ((worker : ℕ) → is_held live.dataflow worker ≡ false) → NoneIsHeld (in_phase e live now)
  none-held-home now home there same none worker = elim (cases_lt worker (crew_of live.dataflow.flow)) [
    | inl inside ↦ sym (held-at now home there same worker inside) ∙ none worker
    | inr past ↦
        let h = stands-somewhere e live now home there in
        ap (λ (s : State). (position_at s.positions worker).restraint.held) h.reached
        ∙ ap (λ (p : Position). p.restraint.held) (listed-past h.positions (crew_of e.flow) worker (subst (λ f. crew_of f ≤ worker) same past))
  ]

  pub loose-home : (now : Phase) → IsHome (record e { phase = now }) live → has_crew now ≡ true → live.dataflow.flow ≡ e.flow
      → NoneIsHeld (in_phase e live now) → (worker : ℕ) → is_held live.dataflow worker ≡ false
  loose-home now home there same none worker = elim (cases_lt worker (crew_of live.dataflow.flow)) [
    | inl inside ↦ held-at now home there same worker inside ∙ none worker
    | inr past ↦ past-loose live.dataflow (home-there e live now home there) worker past
  ]

  -- its workers are armed as counts are in force
  pub armed-home : (now : Phase) → IsHome (record e { phase = now }) live → (within : is_open now ≡ true) → home_state.AreArmed (record e { phase = now; parts = open_parts now live }) → AreInArmedLeg live.dataflow
  armed-home now home within armed =
      let leg = leg-of e live now home within in
      all-armed live.arms live.boards live.dataflow (ready-step e live now leg within armed) (stands-leg e live.dataflow live.arms (runs_to_end now) leg.leg)

  module _ (now : Phase) (home : IsHome (record e { phase = now }) live) (within : is_open now ≡ true) (flow : live.dataflow.flow ≡ e.flow)
      (armed : home_state.AreArmed (record e { phase = now; parts = open_parts now live })) (after : DataflowState) (is : after ≡ all_resumed live.dataflow) (again : StandAgain live.dataflow after) where
    abbrev pub later : LiveState
    later = record live { dataflow = after }

    leg-resumed : IsLeg e later (runs_to_end now) (counts_in now)
    leg-resumed =
        let leg = leg-of e live now home within in
        let d = live.dataflow in
        leg-on e live (runs_to_end now) (counts_in now) (counts_in now) leg after live.boards
        (resumed-on live.arms live.boards d after (ready-step e live now leg within armed) is again)
        (let same : step_count after ≡ step_count d = ap step_count is ∙ resumed-steps d in let few = leg.leg.few in omega arith)
        (subst (CountsStand (counts_in now) live.arms live.boards) (sym is) (counts-resumed (counts_in now) live.arms live.boards d leg.stand))

    flow-is : after.flow ≡ e.flow
    flow-is = ap (λ (d : DataflowState). d.flow) is ∙ flow

    pub home-resumed : IsHome (record e { flow = after.flow; phase = now; parts = open_parts now later }) later
    home-resumed =
        subst (λ (h : HomeState). IsHome h later) (sym (in-open (record e { flow = after.flow }) later now within))
        (home-of e later (runs_to_end now) (counts_in now) after.flow flow-is leg-resumed)

    -- the home as it is then
    abbrev e_then : HomeState
    e_then = record e { parts = open_parts now later }

    here : IsHome (record e_then { phase = now }) later
    here = subst (λ (f : List Operator). IsHome (record e { flow = f; phase = now; parts = open_parts now later }) later) flow-is home-resumed

    writes : (worker : ℕ) → worker < crew_of e.flow
        → entries_of (open_parts now later) worker ≡ with_resume (position_at (state_of (in_phase e live now)).positions worker).restraint.paused (entries_of (open_parts now live) worker)
    unfolding journal_of is_paused
    writes worker inside =
        let d = live.dataflow in
        let paused = paused-at e live now home (open-there now within) flow worker (subst (λ f. worker < crew_of f) (sym flow) inside) in
        ap (λ (h : HomeState). entries_of h.parts worker) (in-open e later now within)
        ∙ journal-entries after worker
        ∙ ap (λ (k : DataflowState). (worker_state_at k.workers worker).journal) is
        ∙ ap (λ (w : WorkerState). w.journal) (resumed-at d.workers worker)
        ∙ by (worker_state_at d.workers worker) (worker_state_at d.workers worker).restraint.paused
        ∙ ap (λ b. with_resume b (journal_of d worker)) paused
        ∙ ap (with_resume (position_at (state_of (in_phase e live now)).positions worker).restraint.paused)
        (sym (ap (λ (h : HomeState). entries_of h.parts worker) (in-open e live now within) ∙ journal-entries d worker))
      where
        by : (w : WorkerState) (b : Bool) → (if b then resumed_at w else w).journal ≡ with_resume b w.journal
        by w true = refl
        by w false = refl

    pub resumes-home : ResumesLeg (record e { phase = now; parts = open_parts now live }) (record e { flow = after.flow; phase = now; parts = open_parts now later })
    resumes-home =
        subst (λ (f : List Operator). ResumesLeg (record e { phase = now; parts = open_parts now live }) (record e { flow = f; phase = now; parts = open_parts now later })) (sym flow-is)
        (record {
          only = refl;
          writes = writes;
          running = none-paused-home e_then later now here (open-there now within) flow-is
              (λ worker. ap (λ (d : DataflowState). is_paused d worker) is ∙ resumed-running live.dataflow worker);
          far = far-home e e_then live later now now home here within within refl (subst (AreAsFar live.arms live.dataflow) (sym is) (far-resumed live.dataflow live.arms));
        })
