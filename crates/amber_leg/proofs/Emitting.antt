-- The rows that an operator has emitted, told by its workers, who make turns.
use Rattle.std.proofs.Common.{◌≡◌, refl, sym, ap, ◌∙◌, ℕ, ◌+◌, ◌*◌, ◌<◌, ◌≤◌, List, [], ◌∷◌, length, map, true, arith}
use Rattle.std.specs.List.{sum_by}
use Rattle.std.proofs.lemmas.List.Sums.{sum_by-cons}
use Rattle.amber_rows.specs.Topology.{crew_of, workers_of}
use Rattle.amber_rows.specs.declared.flow.Operator.{Operator}
use Rattle.amber_meaning.specs.Position.{Position, emitted_count}
use Rattle.amber_meaning.specs.State.{State, crew_at, emitted_by, position_at}
use Rattle.amber_meaning.proofs.Crews.{worker-known}
use Rattle.amber_meaning.proofs.Numbers.{among, among-first, among-more}
use Rattle.amber_worker.specs.Turning.{MakesTurns}
use Rattle.amber_worker.specs.WorkerState.{WorkerState}
use Rattle.amber_dataflow.specs.AtWork.{emitted_at, worker_state_at}

-- each of these tells how many rows it has emitted
abbrev TellsAt : State → List WorkerState → ℕ → Type 0
TellsAt state crew worker = (worker_state_at crew worker).emitted ≡ emitted_count (position_at state.positions worker).outcomes

told : (state : State) (crew : List WorkerState) (workers : List ℕ) → ((worker : ℕ) → among worker workers ≡ true → TellsAt state crew worker)
    → sum_by (λ p. emitted_count p.outcomes) (map (position_at state.positions) workers) ≡ emitted_at crew workers
told state crew [] each = refl
told state crew (worker ∷ more) each =
    sum_by-cons (λ (p : Position). emitted_count p.outcomes) (position_at state.positions worker) (map (position_at state.positions) more)
    ∙ ap (λ n. n + sum_by (λ p. emitted_count p.outcomes) (map (position_at state.positions) more)) (sym (each worker (among-first worker more)))
    ∙ ap (λ n. (worker_state_at crew worker).emitted + n) (told state crew more (λ w known. each w (among-more w worker more known)))
    ∙ sym (sum_by-cons (λ w. (worker_state_at crew w).emitted) worker more)

pub emitted-by-crew : (flow : List Operator) (state : State) (crew : List WorkerState) → ((worker : ℕ) → worker < crew_of flow → TellsAt state crew worker)
    → (op : ℕ) → emitted_by flow state op ≡ emitted_at crew (workers_of flow op)
unfolding emitted_by crew_at
emitted-by-crew flow state crew each op = told state crew (workers_of flow op) (λ worker known. each worker (worker-known flow op worker known))

-- turns of each emit at most so many rows more a worker
emitted-more : (turns : ℕ) (old new : List WorkerState) (workers : List ℕ)
    → ((worker : ℕ) → among worker workers ≡ true → MakesTurns turns (worker_state_at old worker) (worker_state_at new worker))
    → emitted_at new workers ≤ emitted_at old workers + turns * length workers
emitted-more turns old new [] each = omega arith
emitted-more turns old new (worker ∷ more) each =
    let rest = emitted-more turns old new more (λ w known. each w (among-more w worker more known)) in
    let one = each worker (among-first worker more) in
    let rows = one.rows in
    let taken = one.taken in
    let a = sum_by-cons (λ w. (worker_state_at old w).emitted) worker more in
    let b = sum_by-cons (λ w. (worker_state_at new w).emitted) worker more in
    omega arith

pub emitted-turned : (flow : List Operator) (turns : ℕ) (old new : List WorkerState)
    → ((worker : ℕ) → worker < crew_of flow → MakesTurns turns (worker_state_at old worker) (worker_state_at new worker))
    → (op : ℕ) → emitted_at new (workers_of flow op) ≤ emitted_at old (workers_of flow op) + turns * length (workers_of flow op)
emitted-turned flow turns old new each op = emitted-more turns old new (workers_of flow op) (λ worker known. each worker (worker-known flow op worker known))
