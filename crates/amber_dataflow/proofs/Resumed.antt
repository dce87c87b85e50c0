-- Who was paused goes on: where all stand then, and what is read of them.
use Rattle.std.proofs.Common.{◌≡◌, refl, ap, ◌∙◌, ℕ, zero, suc, List, [], ◌∷◌, map, Bool, true, false, if◌then◌else◌}
use Rattle.std.specs.List.{list_all}
use Rattle.std.proofs.lemmas.List.{length-map}
use Rattle.amber_rows.specs.Topology.{workers_of}
use Rattle.amber_worker.specs.Changes.{resumed_at}
use Rattle.amber_worker.specs.WorkerState.{WorkerState, steps_made}
use Rattle.amber_dataflow.specs.AtWork.{KeepsPosition, worker_state_at}
use Rattle.amber_dataflow.specs.Dataflow.{AreAllThere, AreInArmedLeg, DataflowState, IsDataflow, StandAgain, all_resumed, has_finished, have_all_finished, is_held, is_paused, rows_emitted, seat_of, step_count, worker_resumed}
use Rattle.amber_dataflow.proofs.Emitted.{emitted-same}
use Rattle.amber_dataflow.proofs.GoneOn.{stands-again}
use Rattle.amber_dataflow.proofs.Renewed.{HasItsEnds, renewed}
use Rattle.amber_dataflow.proofs.Standing.{steps-mapped}

pub resumed-at : (crew : List WorkerState) (k : ℕ) → worker_state_at (map worker_resumed crew) k ≡ worker_resumed (worker_state_at crew k)
resumed-at [] k = refl
resumed-at (w ∷ crew) zero = refl
resumed-at (w ∷ crew) (suc k) = resumed-at crew k

resumed-ends : (w : WorkerState) → HasItsEnds w (worker_resumed w)
resumed-ends w = by w.restraint.paused
  where
    by : (b : Bool) → HasItsEnds w (if b then resumed_at w else w)
    by true = record { number = refl; ins = refl; outs = refl }
    by false = record { number = refl; ins = refl; outs = refl }

pub resumed-steps : (d : DataflowState) → step_count (all_resumed d) ≡ step_count d
unfolding step_count
resumed-steps d = steps-mapped worker_resumed (λ w. same w w.restraint.paused) d.workers
  where
    same : (w : WorkerState) (b : Bool) → steps_made (if b then resumed_at w else w) ≡ steps_made w
    same w true = refl
    same w false = refl

pub stand-resumed : (d : DataflowState) → ((worker : ℕ) → KeepsPosition (worker_state_at d.workers worker) (worker_state_at (map worker_resumed d.workers) worker)) → StandAgain d (all_resumed d)
unfolding StandAgain seat_of
stand-resumed d keeps query start positions stand armed =
    let crew = d.workers in
    let now = map worker_resumed crew in
    let same : (k : ℕ) → HasItsEnds (worker_state_at crew k) (worker_state_at now k) = λ k. rw (resumed-at crew k) (resumed-ends (worker_state_at crew k)) in
    let gone = stands-again query start crew now positions stand.work.at armed (length-map crew worker_resumed) keeps in (
      (λ worker. (gone worker).0),
      record {
        flow = stand.flow;
        work = renewed query start start crew now positions (λ worker. (gone worker).0) stand.work (length-map crew worker_resumed) same
            (λ worker inside. (gone worker).1 inside);
      },
    )

pub kept-resumed : (d : DataflowState) → IsDataflow d → AreInArmedLeg d → ((worker : ℕ) → KeepsPosition (worker_state_at d.workers worker) (worker_state_at (map worker_resumed d.workers) worker)) → IsDataflow (all_resumed d)
unfolding StandAgain
kept-resumed d keeps armed each = record {
  flow = keeps.flow;
  few = rw (resumed-steps d) keeps.few;
  stand = λ there.
      let next = stand-resumed d each armed.0 armed.1 armed.2 armed.3 armed.4 in
      (armed.0, armed.1, next.0, next.1);
}

-- ---- what is read of them

-- a number, a flag or a list that resuming leaves
resumed-field : {A : Type 0} (field : WorkerState → A) → ((w : WorkerState) → field (resumed_at w) ≡ field w) → (w : WorkerState) → field (worker_resumed w) ≡ field w
resumed-field field leaves w = by w.restraint.paused
  where
    by : (b : Bool) → field (if b then resumed_at w else w) ≡ field w
    by true = leaves w
    by false = refl

resumed-read : {A : Type 0} (field : WorkerState → A) → ((w : WorkerState) → field (resumed_at w) ≡ field w) → (d : DataflowState) (worker : ℕ)
    → field (worker_state_at (map worker_resumed d.workers) worker) ≡ field (worker_state_at d.workers worker)
resumed-read field leaves d worker = ap field (resumed-at d.workers worker) ∙ resumed-field field leaves (worker_state_at d.workers worker)

pub resumed-there : (d : DataflowState) → AreAllThere d → AreAllThere (all_resumed d)
resumed-there d there = length-map d.workers worker_resumed ∙ there

pub resumed-rows : (d : DataflowState) (op : ℕ) → rows_emitted (all_resumed d) op ≡ rows_emitted d op
unfolding rows_emitted
resumed-rows d op = emitted-same d.workers (map worker_resumed d.workers) (workers_of d.flow op) (λ worker known. resumed-read (λ w. w.emitted) (λ w. refl) d worker)

pub resumed-finished : (d : DataflowState) (worker : ℕ) → has_finished (all_resumed d) worker ≡ has_finished d worker
unfolding has_finished
resumed-finished d worker = resumed-read (λ w. w.finished) (λ w. refl) d worker

pub resumed-all : (d : DataflowState) → have_all_finished (all_resumed d) ≡ have_all_finished d
unfolding have_all_finished
resumed-all d = by d.workers
  where
    by : (crew : List WorkerState) → list_all (λ (w : WorkerState). w.finished) (map worker_resumed crew) ≡ list_all (λ (w : WorkerState). w.finished) crew
    by [] = refl
    by (w ∷ crew) = rw (resumed-field (λ (v : WorkerState). v.finished) (λ v. refl) w, by crew) refl

pub resumed-held : (d : DataflowState) (worker : ℕ) → is_held (all_resumed d) worker ≡ is_held d worker
unfolding is_held
resumed-held d worker = resumed-read (λ w. w.restraint.held) (λ w. refl) d worker

-- nobody is paused any more
pub resumed-running : (d : DataflowState) (worker : ℕ) → is_paused (all_resumed d) worker ≡ false
unfolding is_paused
resumed-running d worker = ap (λ (w : WorkerState). w.restraint.paused) (resumed-at d.workers worker) ∙ by (worker_state_at d.workers worker) (worker_state_at d.workers worker).restraint.paused refl
  where
    by : (w : WorkerState) (b : Bool) → w.restraint.paused ≡ b → (if b then resumed_at w else w).restraint.paused ≡ false
    by w true is = refl
    by w false is = is
