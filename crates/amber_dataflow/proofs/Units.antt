-- The units that an operator's workers have counted.
use Rattle.std.proofs.Common.{◌≡◌, ◌≢◌, refl, sym, ap, ◌∙◌, ℕ, ◌+◌, ◌≤◌, List, [], ◌∷◌, true, arith}
use Rattle.std.proofs.lemmas.List.Sums.{sum_by-cons}
use Rattle.amber_rows.specs.Topology.{op_of, workers_of}
use Rattle.amber_rows.specs.declared.flow.Operator.{Operator}
use Rattle.amber_meaning.proofs.Crews.{worker-op}
use Rattle.amber_meaning.proofs.Numbers.{among, among-first, among-more}
use Rattle.amber_worker.specs.Counting.{mine_in}
use Rattle.amber_worker.specs.WorkerState.{WorkerState}
use Rattle.amber_dataflow.specs.AtWork.{MovesOnly, emitted_at, units_at, worker_state_at}
use Rattle.amber_dataflow.proofs.Crews.{at-each}

-- of one worker
abbrev mine_of : List WorkerState → ℕ → ℕ
mine_of crew worker = mine_in (worker_state_at crew worker).seat

pub units-same : (old new : List WorkerState) (workers : List ℕ) → ((worker : ℕ) → among worker workers ≡ true → mine_of new worker ≡ mine_of old worker)
    → units_at new workers ≡ units_at old workers
units-same old new [] same = refl
units-same old new (worker ∷ more) same =
    sum_by-cons (mine_of new) worker more
    ∙ ap (λ n. n + units_at new more) (same worker (among-first worker more))
    ∙ ap (λ n. mine_of old worker + n) (units-same old new more (λ w known. same w (among-more w worker more known)))
    ∙ sym (sum_by-cons (mine_of old) worker more)

-- another operator's workers have counted what they had
pub others-units : (flow : List Operator) (old new : List WorkerState) (number op : ℕ) → MovesOnly old new number → op ≢ op_of flow number
    → units_at new (workers_of flow op) ≡ units_at old (workers_of flow op)
others-units flow old new number op only apart =
    units-same old new (workers_of flow op) (λ worker known.
    ap (λ (w : WorkerState). mine_in w.seat) (only worker (λ same. apart (sym (worker-op flow op worker known) ∙ ap (op_of flow) same))))

-- those of whom each has counted a unit for each row that it has emitted have done so together
balanced : (old new : List WorkerState) → ((worker : ℕ) → mine_of new worker + (worker_state_at old worker).emitted ≡ mine_of old worker + (worker_state_at new worker).emitted)
    → (workers : List ℕ) → units_at new workers + emitted_at old workers ≡ units_at old workers + emitted_at new workers
balanced old new each [] = refl
balanced old new each (worker ∷ more) =
    let one = each worker in
    let rest = balanced old new each more in
    let a = sum_by-cons (mine_of new) worker more in
    let b = sum_by-cons (λ w. (worker_state_at old w).emitted) worker more in
    let c = sum_by-cons (mine_of old) worker more in
    let d = sum_by-cons (λ w. (worker_state_at new w).emitted) worker more in
    omega arith

-- so it is where one has moved
pub own-units : (flow : List Operator) (old new : List WorkerState) (number : ℕ) → MovesOnly old new number
    → mine_of new number + (worker_state_at old number).emitted ≡ mine_of old number + (worker_state_at new number).emitted
    → units_at new (workers_of flow (op_of flow number)) + emitted_at old (workers_of flow (op_of flow number))
    ≡ units_at old (workers_of flow (op_of flow number)) + emitted_at new (workers_of flow (op_of flow number))
own-units flow old new number only mine =
    balanced old new (at-each (λ worker. mine_of new worker + (worker_state_at old worker).emitted ≡ mine_of old worker + (worker_state_at new worker).emitted) number mine
    (λ other apart.
    let seat = ap (λ (w : WorkerState). mine_in w.seat) (only other apart) in
    let rows = ap (λ (w : WorkerState). w.emitted) (only other apart) in
    omega arith))
    (workers_of flow (op_of flow number))

-- those of whom none has emitted fewer have not together
grown : (old new : List WorkerState) → ((worker : ℕ) → (worker_state_at old worker).emitted ≤ (worker_state_at new worker).emitted) → (workers : List ℕ)
    → emitted_at old workers ≤ emitted_at new workers
grown old new each [] = omega arith
grown old new each (worker ∷ more) =
    let one = each worker in
    let rest = grown old new each more in
    let a = sum_by-cons (λ w. (worker_state_at old w).emitted) worker more in
    let b = sum_by-cons (λ w. (worker_state_at new w).emitted) worker more in
    omega arith

-- so it is where one has moved
pub own-more : (old new : List WorkerState) (number : ℕ) → MovesOnly old new number → (worker_state_at old number).emitted ≤ (worker_state_at new number).emitted
    → (workers : List ℕ) → emitted_at old workers ≤ emitted_at new workers
own-more old new number only more workers =
    grown old new (at-each (λ worker. (worker_state_at old worker).emitted ≤ (worker_state_at new worker).emitted) number more
    (λ other apart. let rows = ap (λ (w : WorkerState). w.emitted) (only other apart) in omega arith))
    workers
