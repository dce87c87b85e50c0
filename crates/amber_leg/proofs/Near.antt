-- Pauses that are far, and rounds of few turns: no operator goes far past its pause.
use Rattle.std.proofs.Common.{◌≡◌, ap, ◌∙◌, ℕ, zero, suc, ◌+◌, ◌*◌, ◌<◌, ◌≤◌, List, length, slice_index_or, Some, inl, inr, arith}
use Rattle.std.proofs.lemmas.Option.{slice_get-get_or}
use Rattle.std.proofs.Math.Nat.{mul-le-mul_right}
use Rattle.std.proofs.lemmas.Bool.{cases_lt}
use Rattle.std.proofs.lemmas.List.{length-map}
use Rattle.amber_rows.specs.Lists.{numbers_below}
use Rattle.amber_rows.specs.Topology.{first_worker_of, worker_count, workers_in, workers_of}
use Rattle.amber_rows.specs.declared.flow.Operator.{Operator}
use Rattle.amber_meaning.specs.State.{arms_at, emitted_by}
use Rattle.amber_dataflow.proofs.Numbered.{length-numbers}
use Rattle.amber_meaning.proofs.Lists.{nth-next}
use Rattle.amber_home.specs.HomeState.{HomeState, state_of}
use Rattle.amber_home.proofs.Places.{nth-past}
use Rattle.amber_leg.specs.Leg.{StaysInTime, most_late, most_turned}

-- an operator has as many workers as it says
pub workers-counted : (flow : List Operator) (op : ℕ) → length (workers_of flow op) ≡ worker_count flow op
unfolding workers_of
workers-counted flow op = length-map (numbers_below (worker_count flow op)) (λ place. first_worker_of flow op + place) ∙ length-numbers (worker_count flow op)

-- one that there is not has none
no-workers : (flow : List Operator) (op : ℕ) → length flow < op → length (workers_of flow op) ≡ 0
no-workers flow op past = workers-counted flow op ∙ ap workers_in (nth-past flow op past)

no-first : (flow : List Operator) → length (workers_of flow 0) ≡ 0
no-first flow = workers-counted flow 0

no-more : (turns workers rows before n : ℕ) → workers ≡ 0 → before ≤ n → rows ≤ before + turns * workers → rows ≤ n + most_late * workers
no-more turns workers rows before n none early made =
    let all : turns * workers ≡ turns * 0 = ap (λ k. turns * k) none in
    let zero : turns * 0 ≡ 0 = omega arith in
    omega (arith, all, zero, early, made)

-- turns that stay in time emit few rows past a pause
pub stays-in-time : (e : HomeState) (turns op n rows : ℕ) → StaysInTime turns e → (arms_at (state_of e) op).pause ≡ Some n → emitted_by e.flow (state_of e) op ≤ n
    → rows ≤ emitted_by e.flow (state_of e) op + turns * length (workers_of e.flow op) → rows ≤ n + most_late * length (workers_of e.flow op)
stays-in-time e turns op n rows (inl few) armed early made =
    let most = mul-le-mul_right {m = turns} {n = most_late} (length (workers_of e.flow op)) few in
    omega (arith, early, made, most)
stays-in-time e turns zero n rows (inr far) armed early made =
    no-more turns (length (workers_of e.flow 0)) rows (emitted_by e.flow (state_of e) 0) n (no-first e.flow) early made
stays-in-time e turns (suc op) n rows (inr far) armed early made = elim (cases_lt (length e.flow) (suc op)) [
  | inl past ↦ no-more turns (length (workers_of e.flow (suc op))) rows (emitted_by e.flow (state_of e) (suc op)) n (no-workers e.flow (suc op) past) early made
  | inr within ↦
      (let most = mul-le-mul_right {m = turns} {n = most_turned} (length (workers_of e.flow (suc op))) far.0 in
      let left = far.1 (suc op) (omega arith) (omega (arith, within)) n armed in
      omega (arith, left, made, most))
]

-- so has the one at this place
pub workers-at : (flow : List Operator) (place : ℕ) → place < length flow → (d : Operator) → length (workers_of flow (place + 1)) ≡ (slice_index_or flow place d).workers
workers-at flow place there d =
    workers-counted flow (place + 1)
    ∙ ap workers_in (nth-next flow place ∙ slice_get-get_or flow place d there)
