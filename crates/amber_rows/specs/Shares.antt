-- The records of a file with their numbers, and which of a scan's workers reads which.
use Rattle.std.specs.Prelude.{ℕ, ◌+◌, ◌-◌, ◌%◌, ◌==◌, List, [], ◌∷◌, filter}

-- each element joined with its number, which is this one for the first
unfoldable pub with_numbers : {A B : Type 0} → (ℕ → A → B) → ℕ → List A → List B
with_numbers numbered number [] = []
with_numbers numbered number (x ∷ xs) = numbered number x ∷ with_numbers numbered (number + 1) xs

-- the worker, from 0, whose turn the record of this number is: they take turns from record 1 on
abbrev pub turn_of : ℕ → ℕ → ℕ
turn_of workers number = (number - 1) % workers

-- the elements, in order, whose number is the turn of this worker
unfoldable pub share_of : {A : Type 0} → (A → ℕ) → ℕ → ℕ → List A → List A
share_of number_of workers worker xs = filter (λ one. turn_of workers (number_of one) == worker) xs
