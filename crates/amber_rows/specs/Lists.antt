-- Words for lists of any elements.
use Rattle.std.specs.Prelude.{◌≡◌, ℕ, zero, suc, ◌-◌, ◌==◌, List, [], ◌∷◌, ◌++◌, Option, Some, None, unwrap_or, slice_get, Bool, true, false, if◌then◌else◌}

-- ---- numbers

-- the numbers from 0 up to this one
unfoldable pub numbers_below : ℕ → List ℕ
numbers_below zero = []
numbers_below (suc n) = numbers_below n ++ n ∷ []

-- the element with a number that counts from 1
abbrev pub nth : {A : Type 0} → List A → ℕ → Option A
nth xs n = if n == 0 then None else slice_get xs (n - 1)

-- the list with this number, of lists numbered from 1; no elements where there is none
abbrev pub list_at : {A : Type 0} → List (List A) → ℕ → List A
list_at lists n = unwrap_or (nth lists n) []

-- the element with this number changed, where the first has the number `place`
abbrev pub changed_from : {A : Type 0} → (A → A) → ℕ → ℕ → List A → List A
changed_from change number place [] = []
changed_from change number place (x ∷ xs) = (if place == number then change x else x) ∷ changed_from change number (suc place) xs

-- the element with this number changed, of a list numbered from 1
abbrev pub changed_at : {A : Type 0} → (A → A) → ℕ → List A → List A
changed_at change number xs = changed_from change number 1 xs

-- ---- the first element

abbrev pub is_empty : {A : Type 0} → List A → Bool
is_empty [] = true
is_empty (x ∷ xs) = false

-- the first element, if there is one
abbrev pub first_of : {A : Type 0} → List A → Option A
first_of [] = None
first_of (x ∷ xs) = Some x

-- the elements after the first
abbrev pub later_of : {A : Type 0} → List A → List A
later_of [] = []
later_of (x ∷ xs) = xs

-- the first of several lists; no elements where there is none
abbrev pub first_list : {A : Type 0} → List (List A) → List A
first_list [] = []
first_list (xs ∷ more) = xs

-- ---- beginnings

-- a list is the beginning of another
abbrev pub IsPrefix : {A : Type 0} → List A → List A → Type 0
IsPrefix {A} xs ys = (more : List A) × (xs ++ more ≡ ys)
