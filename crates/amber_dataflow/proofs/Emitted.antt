-- The rows that an operator's workers have emitted.
use Rattle.std.proofs.Common.{◌≡◌, ◌≢◌, refl, sym, ap, ◌∙◌, ℕ, zero, suc, ◌+◌, ◌-◌, ◌*◌, ◌^◌, ◌<◌, ◌≤◌, List, [], ◌∷◌, ◌++◌, length, get_or, map, sum_by, true, inl, inr, arith, add-one, zero-add}
use Rattle.std.proofs.lemmas.List.{map-append}
use Rattle.std.proofs.lemmas.List.Sums.{sum_by-append, sum_by-cons}
use Rattle.std.proofs.lemmas.Bool.{cases_lt}
use Rattle.std.proofs.lemmas.Bool.Decides.{eqb_tells}
use Rattle.amber_rows.specs.Topology.{crew_of, first_worker_of, op_of, worker_count, workers_of}
use Rattle.amber_rows.specs.FlowRules.{IsFlow}
use Rattle.amber_rows.specs.Lists.{numbers_below}
use Rattle.amber_rows.specs.declared.flow.Operator.{Operator}
use Rattle.amber_rows.proofs.CrewFacts.{count-there}
use Rattle.amber_meaning.proofs.Crews.{place-worker, worker-known, worker-op}
use Rattle.amber_meaning.proofs.Numbers.{among, among-first, among-more}
use Rattle.amber_worker.specs.WorkerState.{WorkerState}
use Rattle.amber_dataflow.specs.AtWork.{MovesOnly, emitted_at, steps_by, worker_state_at}
use Rattle.amber_dataflow.proofs.Split.{read-at}
use Rattle.amber_dataflow.proofs.Steps.{sum-member}

pub crew-few : (flow : List Operator) → IsFlow flow → crew_of flow ≤ 128
unfolding crew_of
crew-few flow ok = ok.few_workers

pub emitted-few : (crew : List WorkerState) (worker : ℕ) → (worker_state_at crew worker).emitted ≤ steps_by crew
emitted-few crew worker = let few = sum-member crew worker in omega arith

-- one worker more
pub emitted-more : (crew : List WorkerState) (first n : ℕ) (rows : ℕ) → rows ≡ emitted_at crew (map (λ place. first + place) (numbers_below n))
    → rows + (worker_state_at crew (first + n)).emitted ≡ emitted_at crew (map (λ place. first + place) (numbers_below (n + 1)))
unfolding numbers_below
emitted-more crew first n rows is =
    let emitted : ℕ → ℕ = λ worker. (worker_state_at crew worker).emitted in
    let next : map (λ place. first + place) (numbers_below (n + 1)) ≡ map (λ place. first + place) (numbers_below n) ++ (first + n) ∷ [] =
    ap (λ m. map (λ place. first + place) (numbers_below m)) (add-one n) ∙ map-append (λ place. first + place) (numbers_below n) (n ∷ []) in
    ap (λ m. m + emitted (first + n)) is
    ∙ ap (λ m. emitted_at crew (map (λ place. first + place) (numbers_below n)) + m) (sym (zero-add (emitted (first + n))))
    ∙ sym (ap (sum_by emitted) next ∙ sum_by-append emitted (map (λ place. first + place) (numbers_below n)) ((first + n) ∷ []))

-- the same as it is counted, and it stays small
pub next-emitted : (crew : List WorkerState) (first place rows emitted : ℕ) (w : WorkerState) → first + place < length crew → w ≡ get_or crew (first + place) w → emitted ≡ w.emitted
    → steps_by crew ≤ 2 ^ 40 → rows ≡ emitted_at crew (map (λ place. first + place) (numbers_below place)) → rows ≤ place * 2 ^ 40
    → (rows + emitted ≡ emitted_at crew (map (λ place. first + place) (numbers_below (place + 1)))) × (rows + emitted ≤ (place + 1) * 2 ^ 40)
next-emitted crew first place rows emitted w inside is own few rows-are small =
    let it : emitted ≡ (worker_state_at crew (first + place)).emitted = own ∙ ap (λ (v : WorkerState). v.emitted) (is ∙ read-at crew (first + place) w inside) in
    let less = emitted-few crew (first + place) in (
      ap (λ n. rows + n) it ∙ emitted-more crew first place rows rows-are,
      omega arith,
    )

module _ (flow operators : List Operator) (crew : List WorkerState) (op place first : ℕ) (o : Operator) (same : operators ≡ flow) (some : 0 < op) (within : op ≤ length flow) where
  count-is : o ≡ get_or operators (op - 1) o → o.workers ≡ worker_count flow op
  count-is is = ap (λ (x : Operator). x.workers) (is ∙ ap (λ xs. get_or xs (op - 1) o) same) ∙ count-there flow op o some within

  -- the worker at a place is there
  pub place-inside : length crew ≡ crew_of flow → o ≡ get_or operators (op - 1) o → first ≡ first_worker_of flow op → place < o.workers → first + place < length crew
  place-inside all is first-is less =
      rw (all, first-is) (worker-known flow op (first_worker_of flow op + place) (place-worker flow op place (rw (← count-is is) less)))

  -- all were counted
  pub all-emitted : (rows : ℕ) → o ≡ get_or operators (op - 1) o → first ≡ first_worker_of flow op → o.workers ≤ place → place ≤ o.workers
      → rows ≡ emitted_at crew (map (λ place. first + place) (numbers_below place)) → rows ≡ emitted_at crew (workers_of flow op)
  unfolding workers_of
  all-emitted rows is first-is least most rows-are =
      let whole : place ≡ worker_count flow op = sym (let e = count-is is in omega arith) in
      rows-are ∙ ap (λ n. emitted_at crew (map (λ place. first + place) (numbers_below n))) whole
      ∙ ap (λ n. emitted_at crew (map (λ place. n + place) (numbers_below (worker_count flow op)))) first-is

-- ---- where one worker moves

pub emitted-same : (old new : List WorkerState) (workers : List ℕ) → ((worker : ℕ) → among worker workers ≡ true → (worker_state_at new worker).emitted ≡ (worker_state_at old worker).emitted)
    → emitted_at new workers ≡ emitted_at old workers
emitted-same old new [] same = refl
emitted-same old new (worker ∷ more) same =
    sum_by-cons (λ w. (worker_state_at new w).emitted) worker more
    ∙ ap (λ n. n + emitted_at new more) (same worker (among-first worker more))
    ∙ ap (λ n. (worker_state_at old worker).emitted + n) (emitted-same old new more (λ w known. same w (among-more w worker more known)))
    ∙ sym (sum_by-cons (λ w. (worker_state_at old w).emitted) worker more)

-- another operator's workers have emitted what they had
pub others-emitted : (flow : List Operator) (old new : List WorkerState) (number op : ℕ) → MovesOnly old new number → op ≢ op_of flow number
    → emitted_at new (workers_of flow op) ≡ emitted_at old (workers_of flow op)
others-emitted flow old new number op only apart =
    emitted-same old new (workers_of flow op) (λ worker known.
    ap (λ (w : WorkerState). w.emitted) (only worker (λ same. apart (sym (worker-op flow op worker known) ∙ ap (op_of flow) same))))

-- ---- so many more rows at most

-- what so many workers in a row have emitted
abbrev row_emitted : List WorkerState → ℕ → ℕ → ℕ
row_emitted crew first n = emitted_at crew (map (λ place. first + place) (numbers_below n))

row-none : (crew : List WorkerState) (first : ℕ) → row_emitted crew first 0 ≡ 0
unfolding numbers_below
row-none crew first = refl

row-more : (crew : List WorkerState) (first n : ℕ) → row_emitted crew first n + (worker_state_at crew (first + n)).emitted ≡ row_emitted crew first (suc n)
row-more crew first n = emitted-more crew first n (row_emitted crew first n) refl ∙ ap (row_emitted crew first) (add-one n)

module _ (old new : List WorkerState) (number most : ℕ) (only : MovesOnly old new number) (rows : (worker_state_at new number).emitted ≤ (worker_state_at old number).emitted + most) where
  -- whether the one that moved is among them or not
  emitted-row : (first n : ℕ) → (number < first + n → row_emitted new first n ≤ row_emitted old first n + most) × (first + n ≤ number → row_emitted new first n ≤ row_emitted old first n)
  emitted-row first zero =
      let before = row-none old first in
      let now = row-none new first in
      (λ below. omega arith, λ above. omega arith)
  emitted-row first (suc n) =
      let parts = emitted-row first n in
      let before = row-more old first n in
      let now = row-more new first n in
      elim (eqb_tells (first + n) number) [
        | inl same ↦
            let is = same.1 in
            let here = ap (λ worker. (worker_state_at new worker).emitted) is in
            let there = ap (λ worker. (worker_state_at old worker).emitted) is in
            let less = parts.1 (omega arith) in
            (λ below. omega arith, λ above. absurd (omega arith))
        | inr other ↦
            let apart = other.1 in
            let last = ap (λ (w : WorkerState). w.emitted) (only (first + n) apart) in
            (λ below. let less = parts.0 (omega arith) in omega arith, λ above. let less = parts.1 (omega arith) in omega arith)
      ]

  pub own-emitted : (flow : List Operator) (op : ℕ) → emitted_at new (workers_of flow op) ≤ emitted_at old (workers_of flow op) + most
  unfolding workers_of
  own-emitted flow op =
      let parts = emitted-row (first_worker_of flow op) (worker_count flow op) in
      elim (cases_lt number (first_worker_of flow op + worker_count flow op)) [ inl below ↦ parts.0 below | inr above ↦ let less = parts.1 above in omega arith ]
