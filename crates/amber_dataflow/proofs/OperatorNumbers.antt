-- The workers of all operators, one operator after the other, are all workers.
use Rattle.std.proofs.Common.{◌≡◌, refl, sym, ap, ◌∙◌, ℕ, zero, suc, ◌+◌, ◌<◌, ◌≤◌, ◌-◌, List, [], ◌∷◌, ◌++◌, length, map, take, slice_get, add-one, add-zero, append-nil, append_assoc, arith}
use Rattle.std.specs.List.{flat_map}
use Rattle.std.proofs.lemmas.List.{map-append, take_all}
use Rattle.amber_rows.specs.Topology.{crew_of, first_worker_of, worker_count, workers_in, workers_of}
use Rattle.amber_rows.specs.Lists.{numbers_below}
use Rattle.amber_rows.specs.declared.flow.Operator.{Operator}
use Rattle.amber_rows.proofs.CrewFacts.{crew-more}
use Rattle.amber_meaning.proofs.Lists.{nth-next}
use Rattle.amber_meaning.specs.Stops.{op_numbers}
use Rattle.amber_dataflow.proofs.Listed.{listed-more}

numbers-split : (a b : ℕ) → numbers_below (a + b) ≡ numbers_below a ++ map (λ place. a + place) (numbers_below b)
unfolding numbers_below
numbers-split a zero = ap numbers_below (add-zero a) ∙ sym (append-nil (numbers_below a))
numbers-split a (suc b) =
    let next : a + suc b ≡ suc (a + b) = omega arith in
    ap numbers_below next
    ∙ ap (λ l. l ++ (a + b) ∷ []) (numbers-split a b)
    ∙ append_assoc (numbers_below a) (map (λ place. a + place) (numbers_below b)) ((a + b) ∷ [])
    ∙ ap (λ l. numbers_below a ++ l) (sym (map-append (λ place. a + place) (numbers_below b) (b ∷ [])))

crew-none : crew_of [] ≡ 0
unfolding crew_of
crew-none = refl

crew-step : (flow : List Operator) (n : ℕ) → n < length flow → crew_of (take (suc n) flow) ≡ crew_of (take n flow) + workers_in (slice_get flow n)
crew-step [] n less = absurd (omega arith)
crew-step (o ∷ flow) zero less = let more = crew-more o [] in let none = crew-none in omega arith
crew-step (o ∷ flow) (suc n) less =
    let rest = crew-step flow n (omega arith) in
    let longer = crew-more o (take (suc n) flow) in
    let shorter = crew-more o (take n flow) in
    omega arith

workers-next : (flow : List Operator) (n : ℕ) → workers_of flow (n + 1) ≡ map (λ place. crew_of (take n flow) + place) (numbers_below (workers_in (slice_get flow n)))
unfolding workers_of first_worker_of
workers-next flow n =
    let place : n + 1 - 1 ≡ n = omega arith in
    ap (λ m. map (λ place. crew_of (take m flow) + place) (numbers_below (worker_count flow (n + 1)))) place
    ∙ ap (λ found. map (λ place. crew_of (take n flow) + place) (numbers_below (workers_in found))) (nth-next flow n)

first-workers : (flow : List Operator) (n : ℕ) → n ≤ length flow → numbers_below (crew_of (take n flow)) ≡ flat_map (workers_of flow) (map suc (numbers_below n))
unfolding numbers_below
first-workers flow zero within = ap numbers_below crew-none
first-workers flow (suc n) within =
    listed-more (workers_of flow) n (numbers_below (crew_of (take n flow))) (numbers_below (crew_of (take (suc n) flow))) (first-workers flow n (omega arith))
    (ap numbers_below (crew-step flow n (omega arith)) ∙ numbers-split (crew_of (take n flow)) (workers_in (slice_get flow n))
    ∙ ap (λ l. numbers_below (crew_of (take n flow)) ++ l) (sym (workers-next flow n)))
    ∙ ap (λ m. flat_map (workers_of flow) (map suc (numbers_below m))) (add-one n)

pub all-workers : (flow : List Operator) → numbers_below (crew_of flow) ≡ flat_map (workers_of flow) (op_numbers flow)
all-workers flow = ap (λ l. numbers_below (crew_of l)) (sym (take_all (length flow) flow (omega arith))) ∙ first-workers flow (length flow) (omega arith)

-- where the last operator has one worker, it is the last of all
pub last-worker : (flow : List Operator) (n m : ℕ) → length flow ≡ n + 1 → worker_count flow (n + 1) ≡ 1 → crew_of flow ≡ suc m → workers_of flow (n + 1) ≡ m ∷ []
unfolding numbers_below
last-worker flow n m long one all =
    let count : workers_in (slice_get flow n) ≡ 1 = sym (ap workers_in (nth-next flow n)) ∙ one in
    let whole : crew_of flow ≡ crew_of (take n flow) + workers_in (slice_get flow n) =
    ap crew_of (sym (take_all (suc n) flow (omega arith))) ∙ crew-step flow n (omega arith) in
    let before : crew_of (take n flow) ≡ m = omega arith in
    workers-next flow n
    ∙ ap (λ k. map (λ place. crew_of (take n flow) + place) (numbers_below k)) count
    ∙ ap (λ k. k ∷ []) (add-zero (crew_of (take n flow)) ∙ before)
