-- A home where no stop stands and nobody is paused: its workers are free to go on.
use Rattle.std.proofs.Common.{◌≡◌, ◌≢◌, refl, sym, ap, subst, ◌∙◌, ℕ, ◌<◌, ◌≤◌, List, [], length, true, false, inl, inr, arith}
use Rattle.std.proofs.Math.ListN.{get_or-eq_default}
use Rattle.std.proofs.lemmas.Bool.{cases_lt, false_from_ne_true, false≢true}
use Rattle.amber_rows.specs.Topology.{crew_of}
use Rattle.amber_meaning.specs.Position.{Position, Restraint}
use Rattle.amber_meaning.specs.State.{State, position_at}
use Rattle.amber_worker.specs.WorkerState.{WorkerState}
use Rattle.amber_dataflow.specs.AtWork.{no_worker_state}
use Rattle.amber_dataflow.specs.Dataflow.{AreAllThere, AreHeldByRows, DataflowState, is_held, is_paused}
use Rattle.amber_dataflow.proofs.Reached.{listed-past}
use Rattle.amber_dataflow.proofs.Standing.{stand-position}
use Rattle.amber_home.specs.Asked.{Asked}
use Rattle.amber_home.specs.HomeState.{HomeState, NoneIsPaused, has_crew, is_open, query_of, state_of, stops_of_home}
use Rattle.amber_home.specs.Kept.{IsHome, LiveState}
use Rattle.amber_home.specs.Leg.{LegGoesOn, IsCut, stops_by}
use Rattle.amber_home.specs.declared.phase.Phase.{Phase}
use Rattle.amber_home.specs.declared.phase.Phase.TheVariants as phase
use Rattle.amber_home.proofs.HeldRows.{rows-within}
use Rattle.amber_home.proofs.Homes.{home-there, long-open, open-there}
use Rattle.amber_home.proofs.Reached.{restraint-at}
use Rattle.amber_home.proofs.Saying.{in_phase, stands-somewhere, stops-open}
use Rattle.amber_home.proofs.Stopped.{stops-some}

-- ---- a worker that is not there

pub past-loose : (d : DataflowState) → AreAllThere d → (worker : ℕ) → crew_of d.flow ≤ worker → is_held d worker ≡ false
unfolding is_held
past-loose d all worker past = ap (λ (w : WorkerState). w.restraint.held) (get_or-eq_default d.workers no_worker_state (omega arith))

pub past-running : (d : DataflowState) → AreAllThere d → (worker : ℕ) → crew_of d.flow ≤ worker → is_paused d worker ≡ false
unfolding is_paused
past-running d all worker past = ap (λ (w : WorkerState). w.restraint.paused) (get_or-eq_default d.workers no_worker_state (omega arith))

-- ---- no stop

-- where no stop stands
pub goes-none : (arms : List Asked) (d : DataflowState) → length arms ≡ length d.flow → AreAllThere d → AreHeldByRows d → stops_by arms d ≡ [] → LegGoesOn arms d
goes-none arms d long all rows none = record {
  loose = λ worker. elim (cases_lt worker (crew_of d.flow)) [
    | inl inside ↦ false_from_ne_true _ (λ held. stops-some arms d long rows (inl (worker, inside, held)) none)
    | inr past ↦ past-loose d all worker past
  ];
  none = λ op. false_from_ne_true _ (λ stopped. stops-some arms d long rows (inr (inl (op, stopped))) none);
  unfinished = false_from_ne_true _ (λ finished. stops-some arms d long rows (inr (inr finished)) none);
}

-- ---- of a home

module _ (e : HomeState) (live : LiveState) where
  rows-open : (now : Phase) → IsHome (record e { phase = now }) live → is_open now ≡ true → AreHeldByRows live.dataflow
  rows-open phase.Resting home within = absurd (false≢true within)
  rows-open phase.Over home within = absurd (false≢true within)
  rows-open (phase.Lent to_end) home within = absurd (false≢true within)
  rows-open (phase.Unsettled to_end) home within = absurd (false≢true within)
  rows-open (phase.Redoing to_end empty) home within = absurd (false≢true within)
  rows-open phase.Spent home within = absurd (false≢true within)
  rows-open (phase.Open to_end counts) home within = rows-within to_end (record e { phase = phase.Open to_end counts }) live.dataflow live.arms home.stands.0 home.legal

  -- where no stop stands
  pub goes-home : (now : Phase) → IsHome (record e { phase = now }) live → is_open now ≡ true → live.dataflow.flow ≡ e.flow
      → stops_of_home (in_phase e live now) ≡ [] → LegGoesOn live.arms live.dataflow
  goes-home now home within same none =
      goes-none live.arms live.dataflow (long-open e live now home within ∙ ap length (sym same)) (home-there e live now home (open-there now within))
      (rows-open now home within) (stops-open e live now home within (stops_by live.arms live.dataflow) refl ∙ none)

  -- where something stands at which a leg is cut there is a stop
  pub cut-home : (now : Phase) → IsHome (record e { phase = now }) live → is_open now ≡ true → live.dataflow.flow ≡ e.flow
      → IsCut live.arms live.dataflow → stops_of_home (in_phase e live now) ≢ []
  cut-home now home within same cut none =
      stops-some live.arms live.dataflow (long-open e live now home within ∙ ap length (sym same)) (rows-open now home within) cut
      (stops-open e live now home within (stops_by live.arms live.dataflow) refl ∙ none)

  -- a worker that is there is paused as its position is
  pub paused-at : (now : Phase) → IsHome (record e { phase = now }) live → has_crew now ≡ true → live.dataflow.flow ≡ e.flow → (worker : ℕ) → worker < crew_of live.dataflow.flow
      → is_paused live.dataflow worker ≡ (position_at (state_of (in_phase e live now)).positions worker).restraint.paused
  unfolding is_paused
  paused-at now home there same worker inside =
      let h = stands-somewhere e live now home there in
      let d = live.dataflow in
      let within : worker < crew_of (query_of e).flow = subst (λ f. worker < crew_of f) same inside in
      ap (λ (r : Restraint). r.paused) (restraint-at (query_of e) h.start d h.positions h.at worker within)
      ∙ ap (λ (p : Position). p.restraint.paused) (sym (stand-position (query_of e) h.start d h.positions h.at worker within))
      ∙ ap (λ (s : State). (position_at s.positions worker).restraint.paused) (sym h.reached)

  -- where no worker is paused, no position is
  pub none-paused-home : (now : Phase) → IsHome (record e { phase = now }) live → has_crew now ≡ true → live.dataflow.flow ≡ e.flow
      → ((worker : ℕ) → is_paused live.dataflow worker ≡ false) → NoneIsPaused (in_phase e live now)
  none-paused-home now home there same none worker = elim (cases_lt worker (crew_of live.dataflow.flow)) [
    | inl inside ↦ sym (paused-at now home there same worker inside) ∙ none worker
    | inr past ↦
        let h = stands-somewhere e live now home there in
        ap (λ (s : State). (position_at s.positions worker).restraint.paused) h.reached
        ∙ ap (λ (p : Position). p.restraint.paused) (listed-past h.positions (crew_of e.flow) worker (subst (λ f. crew_of f ≤ worker) same past))
  ]

  -- nobody is paused
  pub running-home : (now : Phase) → IsHome (record e { phase = now }) live → has_crew now ≡ true → live.dataflow.flow ≡ e.flow
      → NoneIsPaused (in_phase e live now) → (worker : ℕ) → is_paused live.dataflow worker ≡ false
  running-home now home there same none worker = elim (cases_lt worker (crew_of live.dataflow.flow)) [
    | inl inside ↦ paused-at now home there same worker inside ∙ none worker
    | inr past ↦ past-running live.dataflow (home-there e live now home there) worker past
  ]
