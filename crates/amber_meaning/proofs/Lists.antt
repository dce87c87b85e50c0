-- Facts on lists that several proofs share.
use Rattle.std.proofs.Common.{◌≡◌, ℕ, zero, suc, ◌+◌, ◌-◌, ◌<◌, ◌≤◌, eqb, List, [], ◌∷◌, ◌++◌, length, get_or, Some, unwrap_or, Bool, true, false, if◌then◌else◌, ◌⊎◌, inl, inr, refl, sym, ap, ◌∙◌, arith, append_assoc}
use Rattle.std.specs.List.{list_all, list_any, slice_get}
use Rattle.std.proofs.lemmas.Bool.{and_from, and_parts, cases_lt, eq-eqb, eqb-true, false≢true, ne_eqb, or_cases, or_left, or_right}
use Rattle.std.proofs.lemmas.List.{append-nil}
use Rattle.std.proofs.lemmas.List.Folds.{list_all-append}
use Rattle.std.proofs.lemmas.Option.{unwrap_or-slice_get}
use Rattle.amber_rows.specs.Lists.{numbers_below, nth, changed_from, IsPrefix}

pub IsPrefix-refl : {A : Type 0} (xs : List A) → IsPrefix xs xs
IsPrefix-refl xs = ([], append-nil xs)

pub IsPrefix-trans : {A : Type 0} (xs ys zs : List A) → IsPrefix xs ys → IsPrefix ys zs → IsPrefix xs zs
IsPrefix-trans xs ys zs a b = (a.0 ++ b.0, sym (append_assoc xs a.0 b.0) ∙ ap (λ l. l ++ b.0) a.1 ∙ b.1)

-- numbers from 1 on are places from 0 on
pub nth-next : {A : Type 0} (xs : List A) (n : ℕ) → nth xs (n + 1) ≡ slice_get xs n
nth-next xs n =
    let e : n + 1 - 1 ≡ n = omega arith in
    rw (ne_eqb (n + 1) 0 (λ f. omega arith), e)

pub slice_get-seam : {A : Type 0} (xs : List A) (y : A) (ys : List A) → slice_get (xs ++ y ∷ ys) (length xs) ≡ Some y
slice_get-seam [] y ys = refl
slice_get-seam (x ∷ xs) y ys = slice_get-seam xs y ys

-- what follows a beginning
pub nth-behind : {A : Type 0} (xs ys : List A) (y : A) (n : ℕ) → n ≡ length xs → IsPrefix (xs ++ y ∷ []) ys → nth ys (n + 1) ≡ Some y
nth-behind xs ys y n e b =
    nth-next ys n ∙ rw (e, ← b.1, append_assoc xs (y ∷ []) b.0) (slice_get-seam xs y b.0)

pub numbered_or : {A : Type 0} (xs : List A) (n : ℕ) (d : A) → unwrap_or (nth xs (n + 1)) d ≡ get_or xs n d
numbered_or xs n d = rw (nth-next xs n) (unwrap_or-slice_get xs n d)

-- a change that leaves each element as it is
pub changed-same : {A : Type 0} (change : A → A) (number place : ℕ) (xs : List A) → ((x : A) → change x ≡ x) → changed_from change number place xs ≡ xs
changed-same change number place [] same = refl
changed-same change number place (x ∷ xs) same = by (eqb place number) (changed-same change number (suc place) xs same)
  where
    by : (b : Bool) → changed_from change number (suc place) xs ≡ xs → (if b then change x else x) ∷ changed_from change number (suc place) xs ≡ x ∷ xs
    by true e = rw (same x, e) refl
    by false e = rw e refl

-- ---- tests of all elements

pub list_all-every : {A : Type 0} (test : A → Bool) (xs : List A) → ((x : A) → test x ≡ true) → list_all test xs ≡ true
list_all-every test [] h = refl
list_all-every test (x ∷ xs) h = and_from _ _ (h x) (list_all-every test xs h)

pub list_all-below : (test : ℕ → Bool) (n : ℕ) → ((k : ℕ) → k < n → test k ≡ true) → list_all test (numbers_below n) ≡ true
unfolding numbers_below
list_all-below test zero h = refl
list_all-below test (suc n) h =
    list_all-append test (numbers_below n) (n ∷ [])
    ∙ and_from _ _ (list_all-below test n (λ k less. h k (omega arith))) (and_from _ _ (h n (omega arith)) refl)

pub list_all-members : (test : ℕ → Bool) (xs : List ℕ) → ((x : ℕ) → list_any (λ y. eqb y x) xs ≡ true → test x ≡ true) → list_all test xs ≡ true
list_all-members test [] h = refl
list_all-members test (x ∷ xs) h =
    and_from _ _ (h x (or_left _ _ (eq-eqb x x refl))) (list_all-members test xs (λ y e. h y (or_right _ _ e)))

pub list_all-member : (test : ℕ → Bool) (xs : List ℕ) (x : ℕ) → list_all test xs ≡ true → list_any (λ y. eqb y x) xs ≡ true → test x ≡ true
list_all-member test [] x e f = absurd (false≢true f)
list_all-member test (y ∷ ys) x e f = by (or_cases (eqb y x) _ f) (list_all-member test ys x (and_parts (test y) _ e).1)
  where
    by : (eqb y x ≡ true) ⊎ (list_any (λ z. eqb z x) ys ≡ true) → (list_any (λ z. eqb z x) ys ≡ true → test x ≡ true) → test x ≡ true
    by (inl here) rest = rw (← eqb-true y x here) ((and_parts (test y) _ e).0)
    by (inr there) rest = rest there

pub list_all-at : (test : ℕ → Bool) (n k : ℕ) → list_all test (numbers_below n) ≡ true → k < n → test k ≡ true
unfolding numbers_below
list_all-at test zero k e less = absurd (omega arith)
list_all-at test (suc n) k e less =
    by (and_parts _ _ (sym (list_all-append test (numbers_below n) (n ∷ [])) ∙ e)) (cases_lt k n) (list_all-at test n k)
  where
    by : (list_all test (numbers_below n) ≡ true) × (list_all test (n ∷ []) ≡ true) → (k < n) ⊎ (n ≤ k)
        → (list_all test (numbers_below n) ≡ true → k < n → test k ≡ true) → test k ≡ true
    by parts (inl lower) rest = rest parts.0 lower
    by parts (inr above) rest = let same : n ≡ k = omega arith in rw (← same) ((and_parts _ _ parts.1).0)
