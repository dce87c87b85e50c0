-- The running numbers of an operator's workers.
use Rattle.std.proofs.Common.{◌≡◌, ℕ, zero, suc, ◌+◌, ◌-◌, ◌<◌, ◌≤◌, true, List, [], ◌∷◌, length, take, slice_get, refl, sym, ◌∙◌, ap, arith, ◌⊎◌, inl, inr}
use Rattle.std.proofs.lemmas.Bool.{cases_lt, le-ltb, lt-ltb}
use Rattle.std.proofs.lemmas.List.Sums.{sum_by-cons}
use Rattle.amber_rows.specs.Topology.{crew_of, first_worker_of, op_of, worker_count, workers_in, workers_of}
use Rattle.amber_rows.specs.declared.flow.Operator.{Operator}
use Rattle.amber_meaning.proofs.Numbers.{among, are_different, different-row, in-row, row-in}
use Rattle.amber_meaning.proofs.Lists.{nth-next}

-- ---- by places from 0

-- the first worker of the operator at a place, and how many it has
abbrev first_at : List Operator → ℕ → ℕ
first_at flow place = crew_of (take place flow)

abbrev count_at : List Operator → ℕ → ℕ
count_at flow place = workers_in (slice_get flow place)

crew_none : crew_of [] ≡ 0
unfolding crew_of
crew_none = refl

crew_more : (o : Operator) (flow : List Operator) → crew_of (o ∷ flow) ≡ o.workers + crew_of flow
unfolding crew_of
crew_more o flow = sum_by-cons (λ (x : Operator). x.workers) o flow

within_crew : (flow : List Operator) (place : ℕ) → first_at flow place + count_at flow place ≤ crew_of flow
within_crew [] zero = omega (arith, crew_none)
within_crew [] (suc place) = omega (arith, crew_none)
within_crew (o ∷ flow) zero = omega (arith, crew_none, crew_more o flow)
within_crew (o ∷ flow) (suc place) = omega (arith, crew_more o flow, crew_more o (take place flow), within_crew flow place)

op_here : (o : Operator) (flow : List Operator) (worker : ℕ) → worker < o.workers → op_of (o ∷ flow) worker ≡ 1
unfolding op_of
op_here o flow worker h = rw (lt-ltb worker o.workers h) refl

op_later : (o : Operator) (flow : List Operator) (worker : ℕ) → o.workers ≤ worker → op_of (o ∷ flow) worker ≡ suc (op_of flow (worker - o.workers))
unfolding op_of
op_later o flow worker h = rw (le-ltb worker o.workers h) refl

op_at : (flow : List Operator) (place worker : ℕ) → first_at flow place ≤ worker → worker < first_at flow place + count_at flow place
    → op_of flow worker ≡ place + 1
op_at [] zero worker h k = absurd (omega (arith, crew_none))
op_at [] (suc place) worker h k = absurd (omega (arith, crew_none))
op_at (o ∷ flow) zero worker h k =
    op_here o flow worker (omega (arith, crew_none))
op_at (o ∷ flow) (suc place) worker h k =
    let more = crew_more o (take place flow) in
    let rest : op_of flow (worker - o.workers) ≡ place + 1 = op_at flow place (worker - o.workers) (omega (arith, more)) (omega (arith, more)) in
    op_later o flow worker (omega (arith, more)) ∙ omega (arith, rest)

-- the place of the operator of a worker
record IsPlaced (flow : List Operator) (worker : ℕ) : Type 0 where
  place : ℕ
  within : place < length flow
  op : op_of flow worker ≡ place + 1
  low : first_at flow place ≤ worker
  high : worker < first_at flow place + count_at flow place

placed : (flow : List Operator) (worker : ℕ) → worker < crew_of flow → IsPlaced flow worker
placed [] worker h = absurd (omega (arith, crew_none))
placed (o ∷ flow) worker h = by (cases_lt worker o.workers) (placed flow (worker - o.workers))
  where
    by : (worker < o.workers) ⊎ (o.workers ≤ worker) → (worker - o.workers < crew_of flow → IsPlaced flow (worker - o.workers)) → IsPlaced (o ∷ flow) worker
    by (inl here) rest = record {
      place = 0;
      within = omega arith;
      op = op_here o flow worker here;
      low = omega (arith, crew_none);
      high = omega (arith, crew_none, here);
    }
    by (inr there) rest =
        let later = rest (omega (arith, h, there, crew_more o flow)) in
        let more = crew_more o (take later.place flow) in
        record {
          place = suc later.place;
          within = omega (arith, later.within);
          op = op_later o flow worker there ∙ omega (arith, later.op);
          low = omega (arith, more, there, later.low);
          high = omega (arith, more, there, later.high);
        }

-- ---- by numbers from 1

count_place : (flow : List Operator) (place : ℕ) → worker_count flow (place + 1) ≡ count_at flow place
count_place flow place = ap workers_in (nth-next flow place)

first_place : (flow : List Operator) (place : ℕ) → first_worker_of flow (place + 1) ≡ first_at flow place
unfolding first_worker_of
first_place flow place = let less : place + 1 - 1 ≡ place = omega arith in rw less refl

count_zero : (flow : List Operator) → worker_count flow 0 ≡ 0
count_zero flow = refl

-- an operator's workers are those from its first one on
pub worker-within : (flow : List Operator) (op worker : ℕ) → among worker (workers_of flow op) ≡ true
    → (first_worker_of flow op ≤ worker) × (worker < first_worker_of flow op + worker_count flow op)
unfolding workers_of
worker-within flow op worker h =
    let found = row-in (λ place. first_worker_of flow op + place) (worker_count flow op) worker h in
    (omega (arith, found.1, found.2), omega (arith, found.1, found.2))

pub within-workers : (flow : List Operator) (op worker : ℕ) → first_worker_of flow op ≤ worker → worker < first_worker_of flow op + worker_count flow op
    → among worker (workers_of flow op) ≡ true
unfolding workers_of
within-workers flow op worker h k =
    let first = first_worker_of flow op in
    let back : first + (worker - first) ≡ worker = omega arith in
    ap (λ w. among w (workers_of flow op)) (sym back) ∙ in-row (λ place. first + place) (worker_count flow op) (worker - first) (omega arith)

pub place-worker : (flow : List Operator) (op place : ℕ) → place < worker_count flow op → among (first_worker_of flow op + place) (workers_of flow op) ≡ true
unfolding workers_of
place-worker flow op place h = in-row (λ n. first_worker_of flow op + n) (worker_count flow op) place h

pub different-workers : (flow : List Operator) (op : ℕ) → are_different (workers_of flow op) ≡ true
unfolding workers_of
different-workers flow op = different-row (λ place. first_worker_of flow op + place) (λ a b e. omega arith) (worker_count flow op)

-- the operator of an operator's worker
pub worker-op : (flow : List Operator) (op worker : ℕ) → among worker (workers_of flow op) ≡ true → op_of flow worker ≡ op
worker-op flow zero worker h = let all = worker-within flow 0 worker h in absurd (omega (arith, all.0, all.1))
worker-op flow (suc place) worker h =
    let next : suc place ≡ place + 1 = omega arith in
    let all = worker-within flow (place + 1) worker (ap (λ op. among worker (workers_of flow op)) (sym next) ∙ h) in
    op_at flow place worker (omega (arith, all.0, first_place flow place)) (omega (arith, all.1, first_place flow place, count_place flow place)) ∙ sym next

pub worker-known : (flow : List Operator) (op worker : ℕ) → among worker (workers_of flow op) ≡ true → worker < crew_of flow
worker-known flow zero worker h = let all = worker-within flow 0 worker h in absurd (omega (arith, all.0, all.1))
worker-known flow (suc place) worker h =
    let next : suc place ≡ place + 1 = omega arith in
    let all = worker-within flow (place + 1) worker (ap (λ op. among worker (workers_of flow op)) (sym next) ∙ h) in
    omega (arith, all.1, first_place flow place, count_place flow place, within_crew flow place)

-- each worker is one of its operator's
pub own-worker : (flow : List Operator) (worker : ℕ) → worker < crew_of flow → among worker (workers_of flow (op_of flow worker)) ≡ true
own-worker flow worker h =
    let at = placed flow worker h in
    rw at.op (within-workers flow (at.place + 1) worker (omega (arith, at.low, first_place flow at.place))
    (omega (arith, at.high, first_place flow at.place, count_place flow at.place)))

pub op-within : (flow : List Operator) (worker : ℕ) → worker < crew_of flow → (0 < op_of flow worker) × (op_of flow worker ≤ length flow)
op-within flow worker h = let at = placed flow worker h in (omega (arith, at.op), omega (arith, at.op, at.within))
