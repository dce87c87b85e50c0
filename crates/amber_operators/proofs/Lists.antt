-- The first elements of a list, and those that are left, one more at a time.
use Rattle.std.proofs.Common.{◌≡◌, ℕ, zero, suc, ◌+◌, ◌≤◌, List, [], ◌∷◌, ◌++◌, length, take, drop, Bool, true, false, ap, arith, add-one, cond, filter}

left-suc : {A : Type 0} (n : ℕ) (xs : List A) (y : A) (ys : List A) → drop n xs ≡ y ∷ ys → drop (suc n) xs ≡ ys
left-suc zero [] y ys e = cc
left-suc zero (x ∷ xs) y ys e = cc
left-suc (suc n) [] y ys e = cc
left-suc (suc n) (x ∷ xs) y ys e = left-suc n xs y ys e

take-suc : {A : Type 0} (n : ℕ) (xs : List A) (y : A) (ys : List A) → drop n xs ≡ y ∷ ys → take (suc n) xs ≡ take n xs ++ y ∷ []
take-suc zero [] y ys e = cc
take-suc zero (x ∷ xs) y ys e = cc
take-suc (suc n) [] y ys e = cc
take-suc (suc n) (x ∷ xs) y ys e = ap (λ l. x ∷ l) (take-suc n xs y ys e)

-- what is left after the first of what is left
pub left-next : {A : Type 0} (n : ℕ) (xs : List A) (y : A) (ys : List A) → drop n xs ≡ y ∷ ys → drop (n + 1) xs ≡ ys
left-next n xs y ys e = rw add-one (left-suc n xs y ys e)

pub take-next : {A : Type 0} (n : ℕ) (xs : List A) (y : A) (ys : List A) → drop n xs ≡ y ∷ ys → take (n + 1) xs ≡ take n xs ++ y ∷ []
take-next n xs y ys e = rw add-one (take-suc n xs y ys e)

-- no more pass a test than there are
pub filter-few : {A : Type 0} (test : A → Bool) (xs : List A) → length (filter test xs) ≤ length xs
filter-few test [] = omega arith
filter-few test (x ∷ xs) = by (test x) (filter-few test xs)
  where
    by : (t : Bool) → length (filter test xs) ≤ length xs → length (cond t (x ∷ filter test xs) (filter test xs)) ≤ length (x ∷ xs)
    by true few = omega arith
    by false few = omega arith
