-- Sums of numbers below a bound, and sums over a list of views.
use Rattle.std.proofs.Common.{◌≡◌, ◌≢◌, ℕ, zero, suc, ◌+◌, ◌<◌, ◌≤◌, cond, eqb, eq-eqb, ltb, List, [], ◌∷◌, length, get_or, sum, sum_by, refl, sym, ap, ◌∙◌, subst, ⊎_elim, arith}
use mathlib.Core.Option.{some}
use lib.ListN.{get_elem?}
use Rattle.std.proofs.lemmas.List.Sums.{sum_by_from}
use Rattle.std.proofs.lemmas.Bool.Decides.{leb_tells}
use Rattle.std.proofs.lemmas.Bool.{cases_lt, ne_eqb}
use Rattle.amber_board.specs.Ledger.{total_below, flag}

pub total_below-ext : (n : ℕ) (f g : ℕ → ℕ) → ((k : ℕ) → k < n → f k ≡ g k) → total_below n f ≡ total_below n g
unfolding total_below
total_below-ext zero f g e = refl
total_below-ext (suc n) f g e =
    let here = e zero (omega arith) in
    let rest = total_below-ext n (λ k. f (suc k)) (λ k. g (suc k)) (λ k h. e (suc k) (omega arith)) in
    omega arith

-- a function that changes at one place changes its total by as much
pub total_below-change : (n i : ℕ) (f g : ℕ → ℕ) → i < n → ((k : ℕ) → k < n → k ≢ i → g k ≡ f k) → total_below n g + f i ≡ total_below n f + g i
unfolding total_below
total_below-change zero i f g h e = absurd (omega arith)
total_below-change (suc n) zero f g h e =
    let rest = total_below-ext n (λ k. g (suc k)) (λ k. f (suc k)) (λ k l. e (suc k) (omega arith) (λ q. omega arith)) in
    omega arith
total_below-change (suc n) (suc i) f g h e =
    let here = e zero (omega arith) (λ q. omega arith) in
    let rest = total_below-change n i (λ k. f (suc k)) (λ k. g (suc k)) (omega arith) (λ k l q. e (suc k) (omega arith) (λ r. q (omega arith))) in
    omega arith

pub total_below-zero : (n : ℕ) (f : ℕ → ℕ) → ((k : ℕ) → k < n → f k ≡ 0) → total_below n f ≡ 0
unfolding total_below
total_below-zero zero f e = refl
total_below-zero (suc n) f e =
    let here = e zero (omega arith) in
    let rest = total_below-zero n (λ k. f (suc k)) (λ k h. e (suc k) (omega arith)) in
    omega arith

-- each term is at most the total
pub total_below-term : (n i : ℕ) (f : ℕ → ℕ) → i < n → f i ≤ total_below n f
unfolding total_below
total_below-term zero i f h = absurd (omega arith)
total_below-term (suc n) zero f h = omega arith
total_below-term (suc n) (suc i) f h = let rest = total_below-term n i (λ k. f (suc k)) (omega arith) in omega arith

pub total_below-le : (n : ℕ) (f g : ℕ → ℕ) → ((k : ℕ) → k < n → f k ≤ g k) → total_below n f ≤ total_below n g
unfolding total_below
total_below-le zero f g e = omega arith
total_below-le (suc n) f g e =
    let here = e zero (omega arith) in
    let rest = total_below-le n (λ k. f (suc k)) (λ k. g (suc k)) (λ k h. e (suc k) (omega arith)) in
    omega arith

pub total_below-plus : (n : ℕ) (f g : ℕ → ℕ) → total_below n (λ k. f k + g k) ≡ total_below n f + total_below n g
unfolding total_below
total_below-plus zero f g = refl
total_below-plus (suc n) f g = let rest = total_below-plus n (λ k. f (suc k)) (λ k. g (suc k)) in omega arith

pub flag-below : (k m : ℕ) → k < m → flag (ltb k m) ≡ 1
flag-below k m h = ⊎_elim (λ t. ap flag t.0) (λ t. let u = t.1 in absurd (omega arith)) (leb_tells (suc k) m)

pub flag-above : (k m : ℕ) → m ≤ k → flag (ltb k m) ≡ 0
flag-above k m h = ⊎_elim (λ t. let u = t.1 in absurd (omega arith)) (λ t. ap flag t.0) (leb_tells (suc k) m)

flag-step : (k m : ℕ) → flag (ltb (suc k) (suc m)) ≡ flag (ltb k m)
flag-step k m = ⊎_elim (λ l. flag-below (suc k) (suc m) (omega arith) ∙ sym (flag-below k m l)) (λ l. flag-above (suc k) (suc m) (omega arith) ∙ sym (flag-above k m l)) (cases_lt k m)

-- the numbers below n that are below m
pub total_below-flag : (n m : ℕ) → m ≤ n → total_below n (λ k. flag (ltb k m)) ≡ m
unfolding total_below
total_below-flag zero m h = omega arith
total_below-flag (suc n) zero h = total_below-zero (suc n) (λ k. flag (ltb k zero)) (λ k l. flag-above k zero (omega arith))
total_below-flag (suc n) (suc m) h =
    let here = flag-below zero (suc m) (omega arith) in
    let rest = total_below-flag n m (omega arith) in
    let same = total_below-ext n (λ k. flag (ltb (suc k) (suc m))) (λ k. flag (ltb k m)) (λ k l. flag-step k m) in
    omega arith

pub sum_by-cons : {X : Type 0} (f : X → ℕ) (x : X) (xs : List X) → sum_by f (x ∷ xs) ≡ f x + sum_by f xs
sum_by-cons f x xs = let all = sum_by_from f (0 + f x) xs in omega arith

-- a list's sum, by its places
pub sum-below : (xs : List ℕ) → sum xs ≡ total_below (length xs) (λ k. get_or xs k 0)
unfolding total_below
sum-below [] = refl
sum-below (x ∷ xs) = let rest = sum-below xs in let here = sum_by-cons (λ (y : ℕ). y) x xs in omega arith

-- a number that stands at one place only
pub total_below-one : (n i c : ℕ) → i < n → total_below n (λ k. cond (eqb i k) c 0) ≡ c
total_below-one n i c h =
    let none = total_below-zero n (λ _. 0) (λ k l. refl) in
    let change = total_below-change n i (λ _. 0) (λ k. cond (eqb i k) c 0) h (λ k l q. subst (λ b. cond b c 0 ≡ 0) (sym (ne_eqb i k (λ r. q (sym r)))) refl) in
    let here : cond (eqb i i) c 0 ≡ c = subst (λ b. cond b c 0 ≡ c) (sym (eq-eqb i i refl)) refl in
    omega arith

-- each item of a list stands under its key, so the totals by key make the sum of the list
pub total_below-keyed : {X : Type 0} (n : ℕ) (key weight : X → ℕ) (xs : List X) → ((k : ℕ) (x : X) → get_elem? xs k ≡ some x → key x < n) → total_below n (λ w. sum_by (λ x. cond (eqb (key x) w) (weight x) 0) xs) ≡ sum_by weight xs
total_below-keyed n key weight [] h = total_below-zero n (λ _. 0) (λ k l. refl)
total_below-keyed n key weight (x ∷ xs) h =
    let rest = total_below-keyed n key weight xs (λ k y e. h (suc k) y e) in
    let one = total_below-one n (key x) (weight x) (h zero x refl) in
    let both = total_below-plus n (λ w. cond (eqb (key x) w) (weight x) 0) (λ w. sum_by (λ y. cond (eqb (key y) w) (weight y) 0) xs) in
    let cut = total_below-ext n (λ w. sum_by (λ y. cond (eqb (key y) w) (weight y) 0) (x ∷ xs)) (λ w. cond (eqb (key x) w) (weight x) 0 + sum_by (λ y. cond (eqb (key y) w) (weight y) 0) xs) (λ w l. sum_by-cons (λ y. cond (eqb (key y) w) (weight y) 0) x xs) in
    let whole = sum_by-cons weight x xs in
    omega arith
