-- The state that workers reach at these positions.
use Rattle.std.proofs.Common.{◌≡◌, refl, sym, ap, ◌∙◌, ℕ, zero, suc, ◌+◌, ◌<◌, ◌≤◌, List, [], ◌∷◌, ◌++◌, length, map, take, length-append, ◌&&◌, inl, inr, add-one, sum_by, Bool, true, false, arith}
use Rattle.std.specs.List.{list_all}
use Rattle.std.proofs.lemmas.Bool.{cases_lt, false≢true}
use Rattle.std.proofs.lemmas.Bool.Decides.{eqb_tells}
use Rattle.std.proofs.lemmas.List.{get_or_past, map-append}
use Rattle.std.proofs.lemmas.List.Sums.{sum_by-append}
use Rattle.std.proofs.lemmas.Grind.{take_at_read}
use Rattle.amber_rows.specs.Lists.{numbers_below}
use Rattle.amber_meaning.specs.Position.{Position, origin, steps_of}
use Rattle.amber_meaning.specs.State.{position_at}
use Rattle.amber_meaning.proofs.Lists.{list_all-at, list_all-below}
use Rattle.amber_meaning.proofs.OneState.{position-before, position-get_or, position-last}
use Rattle.amber_worker.specs.WorkerState.{WorkerState}
use Rattle.amber_worker.specs.WorkerState as worker_state
use Rattle.amber_dataflow.specs.AtWork.{no_worker_state, worker_state_at, steps_by}

-- ---- positions by number

listed-next : (positions : ℕ → Position) (n : ℕ) → map positions (numbers_below (suc n)) ≡ map positions (numbers_below n) ++ positions n ∷ []
unfolding numbers_below
listed-next positions n = map-append positions (numbers_below n) (n ∷ [])

pub length-listed : (positions : ℕ → Position) (n : ℕ) → length (map positions (numbers_below n)) ≡ n
unfolding numbers_below
length-listed positions zero = refl
length-listed positions (suc n) =
    ap length (listed-next positions n) ∙ length-append (map positions (numbers_below n)) (positions n ∷ []) ∙ ap (λ m. m + 1) (length-listed positions n) ∙ add-one n

pub listed-at : (positions : ℕ → Position) (n k : ℕ) → k < n → position_at (map positions (numbers_below n)) k ≡ positions k
listed-at positions zero k h = absurd (omega arith)
listed-at positions (suc n) k h =
    ap (λ list. position_at list k) (listed-next positions n)
    ∙ elim (eqb_tells k n) [
      | inl same ↦ position-last (map positions (numbers_below n)) (positions n) k (length-listed positions n ∙ sym same.1) ∙ ap positions (sym same.1)
      | inr other ↦ let ne = other.1 in
          position-before (map positions (numbers_below n)) (positions n) k (rw (length-listed positions n) (omega arith)) ∙ listed-at positions n k (omega arith)
    ]

pub listed-past : (positions : ℕ → Position) (n k : ℕ) → n ≤ k → position_at (map positions (numbers_below n)) k ≡ origin
listed-past positions n k past =
    position-get_or (map positions (numbers_below n)) k ∙ get_or_past (map positions (numbers_below n)) k origin (rw (length-listed positions n) past)

-- where one position is the same, so is what is listed there
pub listed-same : (old new : ℕ → Position) (n k : ℕ) → new k ≡ old k → position_at (map new (numbers_below n)) k ≡ position_at (map old (numbers_below n)) k
listed-same old new n k same =
    elim (cases_lt k n) [
      | inl below ↦ listed-at new n k below ∙ same ∙ sym (listed-at old n k below)
      | inr past ↦ listed-past new n k past ∙ sym (listed-past old n k past)
    ]

-- ---- steps, and who has finished

pub steps-listed : (crew : List WorkerState) (positions : ℕ → Position) (n : ℕ) → n ≤ length crew → ((k : ℕ) → k < n → worker_state.steps_made (worker_state_at crew k) ≡ steps_of (positions k))
    → sum_by steps_of (map positions (numbers_below n)) ≡ steps_by (take n crew)
unfolding numbers_below steps_by
steps-listed crew positions zero h same = refl
steps-listed crew positions (suc n) h same =
    ap (sum_by steps_of) (listed-next positions n)
    ∙ sum_by-append steps_of (map positions (numbers_below n)) (positions n ∷ [])
    ∙ ap (λ m. m + (0 + steps_of (positions n))) (steps-listed crew positions n (omega arith) (λ k below. same k (omega arith)))
    ∙ ap (λ m. steps_by (take n crew) + (0 + m)) (sym (same n (omega arith)))
    ∙ sym (sum_by-append worker_state.steps_made (take n crew) (worker_state_at crew n ∷ []))
    ∙ ap (sum_by worker_state.steps_made) (sym ((take_at_read crew n no_worker_state (omega (arith, h))).1) ∙ ap (λ m. take m crew) (add-one n))

all-map : {A B : Type 0} (test : B → Bool) (f : A → B) (xs : List A) → list_all test (map f xs) ≡ list_all (λ x. test (f x)) xs
all-map test f [] = refl
all-map test f (x ∷ xs) = ap (λ rest. test (f x) && rest) (all-map test f xs)

pub all-finished : (positions : ℕ → Position) (n : ℕ) → ((k : ℕ) → k < n → (positions k).finished ≡ true) → list_all (λ p. p.finished) (map positions (numbers_below n)) ≡ true
all-finished positions n done = all-map (λ p. p.finished) positions (numbers_below n) ∙ list_all-below (λ k. (positions k).finished) n done

pub not-finished : (positions : ℕ → Position) (n k : ℕ) → k < n → (positions k).finished ≡ false → list_all (λ p. p.finished) (map positions (numbers_below n)) ≡ false
not-finished positions n k h not-yet = by (list_all (λ p. p.finished) (map positions (numbers_below n))) refl
  where
    by : (b : Bool) → list_all (λ p. p.finished) (map positions (numbers_below n)) ≡ b → b ≡ false
    by false e = refl
    by true e = absurd (false≢true (sym not-yet ∙ list_all-at (λ j. (positions j).finished) n k (sym (all-map (λ p. p.finished) positions (numbers_below n)) ∙ e) h))
