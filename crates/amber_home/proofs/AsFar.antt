-- Workers that are as far as they were, and so the home that they are of.
use Rattle.std.proofs.Common.{◌≡◌, refl, sym, ap, ◌∙◌, ℕ, ◌-◌, List, [], ◌∷◌, ◌++◌, Bool, true, Option, inl, inr, if◌then◌else◌}
use Rattle.std.specs.List.{flat_map}
use Rattle.amber_rows.specs.Lists.{numbers_below}
use Rattle.amber_rows.specs.Topology.{crew_of, first_worker_of, op_of}
use Rattle.amber_rows.specs.declared.flow.Operator.{Operator}
use Rattle.amber_meaning.specs.declared.view.Stop.{Stop}
use Rattle.amber_meaning.specs.declared.view.Stop.TheVariants as stop
use Rattle.amber_meaning.specs.State.{emitted_by}
use Rattle.amber_meaning.specs.Stops.{held_stop, op_numbers}
use Rattle.amber_worker.specs.WorkerState.{WorkerState}
use Rattle.amber_dataflow.specs.AtWork.{worker_state_at}
use Rattle.amber_dataflow.specs.Dataflow.{DataflowState, have_all_finished, rows_emitted, step_count}
use Rattle.amber_dataflow.proofs.Standing.{stand-emitted}
use Rattle.amber_boards.specs.Boards.{ChangeUnits, CounterState, has_board}
use Rattle.amber_home.specs.Asked.{Asked}
use Rattle.amber_home.specs.Going.{AreAsFar, IsFedAt}
use Rattle.amber_home.specs.HomeState.{HomeState, IsAsFar, has_crew, is_open, query_of, state_of}
use Rattle.amber_home.specs.Kept.{IsHome, LiveState}
use Rattle.amber_home.specs.Leg.{count_at, counts_of, held_of, pause_at, pauses_of, stop_at_end, stop_of_count, stop_of_pause, stop_of_worker, stops_by}
use Rattle.amber_home.specs.declared.phase.Phase.{Phase}
use Rattle.amber_home.proofs.Fed.{units-all, units-rows, units-steps}
use Rattle.amber_home.proofs.Homes.{open-there}
use Rattle.amber_home.proofs.Saying.{finished-state, in_phase, stands-somewhere, stops-open}
use Rattle.amber_home.proofs.Steps.{steps-are}

-- ---- of the workers

-- what gives the same stops of each gives the same of these
same-each : (f g : ℕ → List Stop) (xs : List ℕ) → ((x : ℕ) → f x ≡ g x) → flat_map f xs ≡ flat_map g xs
same-each f g [] same = refl
same-each f g (x ∷ xs) same = rw (same x, same-each f g xs same) refl

-- the same stops stand where operators have emitted as many rows, all have finished just where they had, and each worker has the stop
-- that it had
module _ (arms : List Asked) (old new : DataflowState) (flow : new.flow ≡ old.flow) (rows : (op : ℕ) → rows_emitted new op ≡ rows_emitted old op)
    (finished : have_all_finished new ≡ have_all_finished old) (each : (worker : ℕ) → stop_of_worker new worker ≡ stop_of_worker old worker) where
  held-same : held_of new ≡ held_of old
  unfolding held_of
  held-same =
      same-each (stop_of_worker new) (stop_of_worker old) (numbers_below (crew_of new.flow)) each
      ∙ ap (λ (f : List Operator). flat_map (stop_of_worker old) (numbers_below (crew_of f))) flow

  counts-same : counts_of arms new ≡ counts_of arms old
  counts-same =
      same-each (λ op. stop_of_count op (count_at arms op) (rows_emitted new op)) (λ op. stop_of_count op (count_at arms op) (rows_emitted old op)) (op_numbers new.flow)
      (λ op. ap (stop_of_count op (count_at arms op)) (rows op))
      ∙ ap (λ (f : List Operator). flat_map (λ op. stop_of_count op (count_at arms op) (rows_emitted old op)) (op_numbers f)) flow

  pauses-same : pauses_of arms new ≡ pauses_of arms old
  pauses-same =
      same-each (λ op. stop_of_pause op (pause_at arms op) (rows_emitted new op)) (λ op. stop_of_pause op (pause_at arms op) (rows_emitted old op)) (op_numbers new.flow)
      (λ op. ap (stop_of_pause op (pause_at arms op)) (rows op))
      ∙ ap (λ (f : List Operator). flat_map (λ op. stop_of_pause op (pause_at arms op) (rows_emitted old op)) (op_numbers f)) flow

  ends-same : stop_at_end new ≡ stop_at_end old
  ends-same = ap (λ b. if b then stop.End ∷ [] else []) finished

  pub far-by : step_count new ≡ step_count old → AreAsFar arms old new
  far-by steps = record {
    steps = steps;
    rows = rows;
    finished = finished;
    stops = λ i. held-same i ++ (counts-same i ++ (pauses-same i ++ ends-same i));
  }

pub far-same : (arms : List Asked) (old new : DataflowState) → new ≡ old → AreAsFar arms old new
far-same arms old new same = record {
  steps = ap step_count same;
  rows = λ op. ap (λ d. rows_emitted d op) same;
  finished = ap have_all_finished same;
  stops = ap (stops_by arms) same;
}

pub far-then : (arms : List Asked) (a b c : DataflowState) → AreAsFar arms a b → AreAsFar arms b c → AreAsFar arms a c
far-then arms a b c first second = record {
  steps = second.steps ∙ first.steps;
  rows = λ op. second.rows op ∙ first.rows op;
  finished = second.finished ∙ first.finished;
  stops = second.stops ∙ first.stops;
}

-- where units change hands
pub far-units : (arms : List Asked) (counted : ℕ → Bool) (old new : DataflowState) → ChangeUnits counted old new → AreAsFar arms old new
far-units arms counted old new units =
    far-by arms old new units.flow (units-rows counted old new units) (units-all counted old new units) each (units-steps counted old new units)
  where
    each : (worker : ℕ) → stop_of_worker new worker ≡ stop_of_worker old worker
    each worker =
        ap (λ (w : WorkerState). held_stop (op_of new.flow worker) (worker - first_worker_of new.flow (op_of new.flow worker)) w.restraint.held w.pending) (units.same worker)
        ∙ ap (λ (f : List Operator). held_stop (op_of f worker) (worker - first_worker_of f (op_of f worker))
        (worker_state_at old.workers worker).restraint.held (worker_state_at old.workers worker).pending) units.flow

-- where a worker was fed
pub far-fed : (arms : List Asked) (boards : List (Option CounterState)) (old new : DataflowState) (worker : ℕ) → IsFedAt boards old new worker → AreAsFar arms old new
far-fed arms boards old new worker fed =
    elim fed [ inl same ↦ far-same arms old new same | inr handed ↦ far-units arms (has_board boards) old new handed.1.units ]

-- ---- of the home

-- operators have emitted as many rows as the state says
pub rows-are : (e : HomeState) (live : LiveState) (now : Phase) → IsHome (record e { phase = now }) live → has_crew now ≡ true → (op : ℕ)
    → rows_emitted live.dataflow op ≡ emitted_by e.flow (state_of (in_phase e live now)) op
rows-are e live now home there op =
    let h = stands-somewhere e live now home there in
    sym (ap (λ s. emitted_by e.flow s op) h.reached ∙ stand-emitted (query_of e) h.start live.dataflow h.positions h.at op)

-- where its workers are as far as they were, so is a home in which a leg is open
pub far-home : (old new : HomeState) (live later : LiveState) (was now : Phase) → IsHome (record old { phase = was }) live → IsHome (record new { phase = now }) later
    → is_open was ≡ true → is_open now ≡ true → later.arms ≡ live.arms → AreAsFar live.arms live.dataflow later.dataflow
    → IsAsFar (in_phase old live was) (in_phase new later now)
far-home old new live later was now home after began begins same far =
    let there = open-there was began in
    let here = open-there now begins in
    record {
      steps = sym (steps-are new later now after here) ∙ far.steps ∙ steps-are old live was home there;
      rows = λ op. sym (rows-are new later now after here op) ∙ far.rows op ∙ rows-are old live was home there op;
      finished = sym (finished-state (query_of new) (state_of (in_phase new later now)) later.dataflow later.arms (stands-somewhere new later now after here)) ∙ far.finished
          ∙ finished-state (query_of old) (state_of (in_phase old live was)) live.dataflow live.arms (stands-somewhere old live was home there);
      stops = sym (stops-open new later now after begins (stops_by later.arms later.dataflow) refl) ∙ ap (λ arms. stops_by arms later.dataflow) same ∙ far.stops
          ∙ stops-open old live was home began (stops_by live.arms live.dataflow) refl;
    }
