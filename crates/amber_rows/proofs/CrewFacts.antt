-- Numbers of workers along the operators.
use Rattle.std.proofs.Common.{◌≡◌, ◌==◌, ◌<◌, ◌≤◌, ◌-◌, ◌+◌, ℕ, zero, suc, List, [], ◌∷◌, Bool, true, false, cond, ◌++◌, length, drop, take, filter, get_or, slice_get, refl, sym, ◌∙◌, ap, add-one, arith, drop-cons, ◌⊎◌, inl, inr}
use Rattle.std.proofs.lemmas.List.Elements.{filter-append}
use Rattle.std.proofs.lemmas.List.Sums.{sum_by-cons, sum_by-take-le}
use Rattle.std.proofs.lemmas.Bool.{cases_lt, lt-ltb, le-ltb, ne_eqb}
use Rattle.amber_rows.specs.Lists.{numbers_below}
use Rattle.amber_rows.specs.Lists.{nth}
use Rattle.amber_rows.specs.Kinds.{is_keyed}
use Rattle.amber_rows.specs.Topology.{crew_of, follower_of, kind_at, op_of, reader_from, reader_of, reads, sends_to, what_at, worker_count, workers_in}
use Rattle.amber_rows.specs.declared.flow.Operator.{Operator}

pub crew-take : (n : ℕ) (flow : List Operator) → crew_of (take n flow) ≤ crew_of flow
unfolding crew_of
crew-take n flow = sum_by-take-le _ flow n

-- the worker is one of the operator that stands next
pub op-here : (flow : List Operator) (i left : ℕ) (operator : Operator) → i < length flow → operator ≡ get_or flow i operator → left < operator.workers
    → op_of (drop i flow) left ≡ 1
unfolding op_of
op-here flow i left operator h e lt =
    let there : drop i flow ≡ operator ∷ drop (suc i) flow = drop-cons flow i operator h ∙ ap (λ o. o ∷ drop (suc i) flow) (sym e) in
    rw (there, lt-ltb left operator.workers lt) refl

-- the worker is none of it, but one of those after it
pub op-later : (flow : List Operator) (i left : ℕ) (operator : Operator) → i < length flow → operator ≡ get_or flow i operator → operator.workers ≤ left
    → op_of (drop i flow) left ≡ suc (op_of (drop (i + 1) flow) (left - operator.workers))
unfolding op_of
op-later flow i left operator h e le =
    let there : drop i flow ≡ operator ∷ drop (suc i) flow = drop-cons flow i operator h ∙ ap (λ o. o ∷ drop (suc i) flow) (sym e) in
    rw (there, le-ltb left operator.workers le, add-one) refl

pub op-none : (left : ℕ) → op_of [] left ≡ 1
unfolding op_of
op-none left = refl

-- ---- each worker is one of its operator's

pub crew-more : (o : Operator) (flow : List Operator) → crew_of (o ∷ flow) ≡ o.workers + crew_of flow
unfolding crew_of
crew-more o flow = sum_by-cons (λ (x : Operator). x.workers) o flow

crew_none : crew_of [] ≡ 0
unfolding crew_of
crew_none = refl

op_first : (o : Operator) (flow : List Operator) (worker : ℕ) → worker < o.workers → op_of (o ∷ flow) worker ≡ 1
unfolding op_of
op_first o flow worker h = rw (lt-ltb worker o.workers h) refl

op_next : (o : Operator) (flow : List Operator) (worker : ℕ) → o.workers ≤ worker → op_of (o ∷ flow) worker ≡ suc (op_of flow (worker - o.workers))
unfolding op_of
op_next o flow worker h = rw (le-ltb worker o.workers h) refl

take-suc_front : (o : Operator) (flow : List Operator) (n : ℕ) → 0 < n → take n (o ∷ flow) ≡ o ∷ take (n - 1) flow
take-suc_front o flow zero some = absurd (omega arith)
take-suc_front o flow (suc n) some = let e : suc n - 1 ≡ n = omega arith in rw e refl

-- where a worker's operator is: it is there, and its first worker comes no later
pub record IsPlaced (flow : List Operator) (worker op : ℕ) : Type 0 where
  pub some : 0 < op
  pub within : op ≤ length flow
  pub first : crew_of (take (op - 1) flow) ≤ worker

pub placed : (flow : List Operator) (worker : ℕ) → worker < crew_of flow → IsPlaced flow worker (op_of flow worker)
placed [] worker h = absurd (omega (arith, crew_none))
placed (o ∷ flow) worker h = by (cases_lt worker o.workers) (placed flow (worker - o.workers))
  where
    by : (worker < o.workers) ⊎ (o.workers ≤ worker) → (worker - o.workers < crew_of flow → IsPlaced flow (worker - o.workers) (op_of flow (worker - o.workers)))
        → IsPlaced (o ∷ flow) worker (op_of (o ∷ flow) worker)
    by (inl here) rest = rw (op_first o flow worker here) (record { some = omega arith; within = omega arith; first = omega (arith, crew_none) })
    by (inr there) rest =
        let later = rest (omega (arith, h, there, crew-more o flow)) in
        let op = op_of flow (worker - o.workers) in
        let front : take op (o ∷ flow) ≡ o ∷ take (op - 1) flow = take-suc_front o flow op later.some in
        let same : suc op - 1 ≡ op = omega arith in
        rw (op_next o flow worker there) (record {
          some = omega arith;
          within = omega (arith, later.within);
          first = omega (arith, ap (λ n. crew_of (take n (o ∷ flow))) same, ap crew_of front, crew-more o (take (op - 1) flow), later.first, there);
        })

-- ---- what an operator does, and which one reads from it

-- an operator's number, where its place is known
nth-place : (flow : List Operator) (op : ℕ) → 0 < op → nth flow op ≡ slice_get flow (op - 1)
nth-place flow op some = rw (ne_eqb op 0 (λ f. omega arith)) refl

-- what the operator at a place does
pub kind-there : (flow : List Operator) (op : ℕ) (d : Operator) → 0 < op → op ≤ length flow → (get_or flow (op - 1) d).what ≡ what_at flow op
kind-there flow op d some within = by flow (op - 1) (omega arith) ∙ sym (ap kind_at (nth-place flow op some))
  where
    by : (flow : List Operator) (place : ℕ) → place < length flow → (get_or flow place d).what ≡ kind_at (slice_get flow place)
    by [] place less = absurd (omega arith)
    by (o ∷ flow) zero less = refl
    by (o ∷ flow) (suc place) less = by flow place (omega arith)

-- how many workers the operator at a place has
pub count-there : (flow : List Operator) (op : ℕ) (d : Operator) → 0 < op → op ≤ length flow → (get_or flow (op - 1) d).workers ≡ worker_count flow op
count-there flow op d some within = by flow (op - 1) (omega arith) ∙ sym (ap workers_in (nth-place flow op some))
  where
    by : (flow : List Operator) (place : ℕ) → place < length flow → (get_or flow place d).workers ≡ workers_in (slice_get flow place)
    by [] place less = absurd (omega arith)
    by (o ∷ flow) zero less = refl
    by (o ∷ flow) (suc place) less = by flow place (omega arith)

-- the operator that stands next reads
pub reader-here : (flow : List Operator) (number op i : ℕ) (o : Operator) → i < length flow → o ≡ get_or flow i o → reads o.what op ≡ true
    → reader_from number (drop i flow) op ≡ number
unfolding reader_from
reader-here flow number op i o h e yes_it =
    let there : drop i flow ≡ o ∷ drop (suc i) flow = drop-cons flow i o h ∙ ap (λ x. x ∷ drop (suc i) flow) (sym e) in
    rw (there, yes_it) refl

-- it does not
pub reader-later : (flow : List Operator) (number op i : ℕ) (o : Operator) → i < length flow → o ≡ get_or flow i o → reads o.what op ≡ false
    → reader_from number (drop i flow) op ≡ reader_from (number + 1) (drop (i + 1) flow) op
unfolding reader_from
reader-later flow number op i o h e not_it =
    let there : drop i flow ≡ o ∷ drop (suc i) flow = drop-cons flow i o h ∙ ap (λ x. x ∷ drop (suc i) flow) (sym e) in
    let next : i + 1 ≡ suc i = omega arith in
    rw (there, not_it, next) refl

pub reader-none : (number op : ℕ) → reader_from number [] op ≡ 0
unfolding reader_from
reader-none number op = refl

read_later : (flow : List Operator) (op number place : ℕ) → 0 < number → place < length flow → reads (kind_at (slice_get flow place)) op ≡ true
    → 0 < reader_from number flow op
unfolding reader_from
read_later [] op number place more less found = absurd (omega arith)
read_later (o ∷ flow) op number zero more less found = rw found more
read_later (o ∷ flow) op number (suc place) more less found = either (reads o.what op) (read_later flow op (number + 1) place (omega arith) (omega arith) found)
  where
    either : (b : Bool) → 0 < reader_from (number + 1) flow op → 0 < cond b number (reader_from (number + 1) flow op)
    either true later = more
    either false later = later

-- an operator that is read has a reader
pub has-reader : (flow : List Operator) (op reader : ℕ) → 0 < reader → reader ≤ length flow → reads (what_at flow reader) op ≡ true → 0 < reader_of flow op
has-reader flow op reader some within r =
    read_later flow op 1 (reader - 1) (omega arith) (omega arith) (ap (λ found. reads (kind_at found) op) (sym (nth-place flow reader some)) ∙ r)

-- ---- the numbers that pass a test

pub below-none : (test : ℕ → Bool) → filter test (numbers_below 0) ≡ []
unfolding numbers_below
below-none test = refl

pub below-next : (test : ℕ → Bool) (n : ℕ) → filter test (numbers_below (n + 1)) ≡ filter test (numbers_below n) ++ cond (test n) (n ∷ []) []
unfolding numbers_below
below-next test n = let next : n + 1 ≡ suc n = omega arith in rw (next, filter-append test (numbers_below n) (n ∷ [])) refl

-- ---- who sends to whom

pub sends-not : (flow : List Operator) (sender worker : ℕ) → reads (what_at flow (op_of flow worker)) (op_of flow sender) ≡ false → false ≡ sends_to flow sender worker
unfolding sends_to
sends-not flow sender worker not_read = rw not_read refl

pub sends-keyed : (flow : List Operator) (sender worker : ℕ) → reads (what_at flow (op_of flow worker)) (op_of flow sender) ≡ true
    → is_keyed (what_at flow (op_of flow worker)) ≡ true → true ≡ sends_to flow sender worker
unfolding sends_to
sends-keyed flow sender worker read keyed = rw (read, keyed) refl

pub sends-follower : (flow : List Operator) (sender worker : ℕ) → reads (what_at flow (op_of flow worker)) (op_of flow sender) ≡ true
    → is_keyed (what_at flow (op_of flow worker)) ≡ false → (follower_of flow sender == worker) ≡ sends_to flow sender worker
unfolding sends_to
sends-follower flow sender worker read keyed = rw (read, keyed) refl
