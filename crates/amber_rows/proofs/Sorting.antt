-- Rows that rise and stand as often as in a list are that list, sorted.
use Rattle.std.proofs.Common.{◌≡◌, ℕ, suc, ◌+◌, ◌<◌, Bool, true, false, cond, List, [], ◌∷◌, ◌++◌, length, get_or, refl, sym, ◌∙◌, ap, arith}
use Rattle.std.specs.List.{sum_by}
use Rattle.std.specs.List.Sorted.{IsPermutation, IsSorted}
use Rattle.std.specs.Ordering.{is_eq, is_gt, is_lt, ordering_reverse}
use Rattle.std.specs.declared.cmp.Ordering.{Ordering}
use Rattle.std.specs.declared.cmp.Ordering.TheVariants.{Less, Equal, Greater}
use Rattle.std.proofs.lemmas.Cmp.{tied_itself, upto}
use Rattle.std.proofs.lemmas.List.Sorted.{ranks_by, sorted_far, sum_by-IsPermutation}
use Rattle.std.proofs.lemmas.List.Sums.{sum_by-cons}
use Rattle.std.specs.FinMap.{IsAntisymmetric, int_cmp-IsAntisymmetric, nat_cmp-IsAntisymmetric, slice_cmp-IsAntisymmetric}
use Rattle.amber_rows.specs.Order.{SameBag, insert_row, row_cmp, sort_rows, times, value_cmp}
use Rattle.amber_rows.specs.OrderLaws.{row-total}
use Rattle.amber_rows.specs.declared.value.Value.{Value}
use Rattle.amber_rows.specs.declared.value.Value.TheVariants.{Int, Text}

-- ---- only equal rows tie

value_same : (x y : Value) → value_cmp x y ≡ Equal → x ≡ y
value_same (Int m) (Int n) e = ap Int (int_cmp-IsAntisymmetric m n e)
value_same (Int m) (Text t) e = cc
value_same (Text s) (Int n) e = cc
value_same (Text s) (Text t) e = ap Text (slice_cmp-IsAntisymmetric nat_cmp-IsAntisymmetric s t e)

pub row-same : IsAntisymmetric row_cmp
row-same = slice_cmp-IsAntisymmetric value_same

-- ---- how often a row stands in a list

-- 1 for a row that is equal, and 0 else
abbrev once : List Value → List Value → ℕ
once row x = cond (is_eq (row_cmp row x)) 1 0

pub times-append : (row : List Value) (xs ys : List (List Value)) → times row (xs ++ ys) ≡ times row xs + times row ys
unfolding times
times-append row [] ys = omega arith
times-append row (x ∷ xs) ys = omega (arith, times-append row xs ys)

times_if : (row y x : List Value) (xs : List (List Value)) (b : Bool) → times row (insert_row y xs) ≡ once row y + times row xs
    → times row (cond b (x ∷ insert_row y xs) (y ∷ x ∷ xs)) ≡ once row y + (once row x + times row xs)
unfolding times
times_if row y x xs true h = omega (arith, h)
times_if row y x xs false h = refl

times_insert : (row y : List Value) (xs : List (List Value)) → times row (insert_row y xs) ≡ once row y + times row xs
unfolding times insert_row
times_insert row y [] = refl
times_insert row y (x ∷ xs) = times_if row y x xs (is_gt (row_cmp y x)) (times_insert row y xs)

pub times-sort : (row : List Value) (xs : List (List Value)) → times row (sort_rows xs) ≡ times row xs
unfolding times sort_rows
times-sort row [] = refl
times-sort row (x ∷ xs) = times_insert row x (sort_rows xs) ∙ ap (λ n. once row x + n) (times-sort row xs)

times_sum : (row : List Value) (xs : List (List Value)) → times row xs ≡ sum_by (once row) xs
unfolding times
times_sum row [] = refl
times_sum row (x ∷ xs) = ap (λ n. once row x + n) (times_sum row xs) ∙ sym (sum_by-cons (once row) x xs)

pub SameBag-permutation : (xs ys : List (List Value)) → IsPermutation xs ys → SameBag xs ys
SameBag-permutation xs ys h = λ row. times_sum row xs ∙ sym (sum_by-IsPermutation (once row) xs ys h) ∙ sym (times_sum row ys)

-- ---- lists that rise

-- the row is not greater than any of these
abbrev IsBelow : List Value → List (List Value) → Type 0
IsBelow row [] = Unit {0}
IsBelow row (x ∷ xs) = (is_gt (row_cmp row x) ≡ false) × IsBelow row xs

abbrev Rises : List (List Value) → Type 0
Rises [] = Unit {0}
Rises (x ∷ xs) = IsBelow x xs × Rises xs

not_after : (o : Ordering) → is_lt o ≡ false → is_gt (ordering_reverse o) ≡ false
not_after Less e = cc
not_after Equal e = refl
not_after Greater e = refl

after : (o : Ordering) → is_gt o ≡ true → is_gt (ordering_reverse o) ≡ false
after Less e = cc
after Equal e = cc
after Greater e = refl

below_down : (row x : List Value) (xs : List (List Value)) → is_gt (row_cmp row x) ≡ false → IsBelow x xs → IsBelow row xs
below_down row x [] h b = tt
below_down row x (y ∷ ys) h b = (upto row-total row x y h b.0, below_down row x ys h b.1)

below_if : (x row y : List Value) (ys : List (List Value)) (b : Bool) → is_gt (row_cmp x row) ≡ false → is_gt (row_cmp x y) ≡ false → IsBelow x ys
    → IsBelow x (insert_row row ys) → IsBelow x (cond b (y ∷ insert_row row ys) (row ∷ y ∷ ys))
below_if x row y ys true h k below more = (k, more)
below_if x row y ys false h k below more = (h, (k, below))

below_insert : (x row : List Value) (ys : List (List Value)) → is_gt (row_cmp x row) ≡ false → IsBelow x ys → IsBelow x (insert_row row ys)
unfolding insert_row
below_insert x row [] h b = (h, tt)
below_insert x row (y ∷ ys) h b = below_if x row y ys (is_gt (row_cmp row y)) h b.0 b.1 (below_insert x row ys h b.1)

rises_if : (row x : List Value) (xs : List (List Value)) (b : Bool) → is_gt (row_cmp row x) ≡ b → Rises (x ∷ xs) → Rises (insert_row row xs)
    → Rises (cond b (x ∷ insert_row row xs) (row ∷ x ∷ xs))
rises_if row x xs true e up more =
    let back : is_gt (row_cmp x row) ≡ false = rw (row-total.antisymm x row) (after (row_cmp row x) e) in
    (below_insert x row xs back up.0, more)
rises_if row x xs false e up more = ((e, below_down row x xs e up.0), up)

rises_insert : (row : List Value) (xs : List (List Value)) → Rises xs → Rises (insert_row row xs)
unfolding insert_row
rises_insert row [] up = (tt, tt)
rises_insert row (x ∷ xs) up = rises_if row x xs (is_gt (row_cmp row x)) refl up (rises_insert row xs up.1)

rises_sort : (xs : List (List Value)) → Rises (sort_rows xs)
unfolding sort_rows
rises_sort [] = tt
rises_sort (x ∷ xs) = rises_insert x (sort_rows xs) (rises_sort xs)

below_from : (x : List Value) (xs : List (List Value)) → ((j : ℕ) (d : List Value) → j < length xs → is_lt (row_cmp (get_or xs j d) x) ≡ false) → IsBelow x xs
below_from x [] h = tt
below_from x (y ∷ ys) h =
    (rw (row-total.antisymm x y) (not_after (row_cmp y x) (h 0 [] (omega arith))), below_from x ys (λ j d k. h (suc j) d (omega arith)))

rises_sorted : (xs : List (List Value)) → IsSorted row_cmp xs → Rises xs
rises_sorted [] up = tt
rises_sorted (x ∷ xs) up = (
  below_from x xs (λ j d h. sorted_far _ (ranks_by row-total (λ y. y)) (x ∷ xs) up 0 (suc j) d (omega arith) (omega arith)),
  rises_sorted xs (λ k d l h. let next : suc k + 1 ≡ suc (k + 1) = omega arith in rw next at (up (suc k) d (omega arith) (omega arith))),
)

-- ---- lists that rise and have the same rows are equal

not_equal : (o : Ordering) → is_gt o ≡ false → is_gt (ordering_reverse o) ≡ false → o ≡ Equal
not_equal Less h k = cc
not_equal Equal h k = refl
not_equal Greater h k = cc

pub equal_from : (o : Ordering) → is_eq o ≡ true → o ≡ Equal
equal_from Less h = cc
equal_from Equal h = refl
equal_from Greater h = cc

below_any_if : (row x y : List Value) (ys : List (List Value)) (b : Bool) → is_eq (row_cmp x y) ≡ b → is_gt (row_cmp row y) ≡ false
    → 0 < cond b 1 0 + times x ys → (0 < times x ys → is_gt (row_cmp row x) ≡ false) → is_gt (row_cmp row x) ≡ false
below_any_if row x y ys true e h some more = rw (row-same x y (equal_from (row_cmp x y) e)) h
below_any_if row x y ys false e h some more = more (omega arith)

below_any : (row x : List Value) (ys : List (List Value)) → IsBelow row ys → 0 < times x ys → is_gt (row_cmp row x) ≡ false
unfolding times
below_any row x [] b some = absurd (omega arith)
below_any row x (y ∷ ys) b some = below_any_if row x y ys (is_eq (row_cmp x y)) refl b.0 some (below_any row x ys b.1)

once_itself : (row : List Value) → once row row ≡ 1
once_itself row = ap (λ o. cond (is_eq o) 1 0) (tied_itself row-total row)

not_after_itself : (row : List Value) → is_gt (row_cmp row row) ≡ false
not_after_itself row = ap is_gt (tied_itself row-total row)

some_there : (x : List Value) (xs : List (List Value)) → 0 < times x (x ∷ xs)
unfolding times
some_there x xs = omega (arith, once_itself x)

heads_same : (x y : List Value) (xs ys : List (List Value)) → IsBelow x xs → IsBelow y ys → SameBag (x ∷ xs) (y ∷ ys) → x ≡ y
heads_same x y xs ys bx by same =
    let up = below_any x y (x ∷ xs) (not_after_itself x, bx) (rw (same y) (some_there y ys)) in
    let down = below_any y x (y ∷ ys) (not_after_itself y, by) (rw (← same x) (some_there x xs)) in
    row-same x y (not_equal (row_cmp x y) up (rw (← row-total.antisymm y x) down))

tails_same : (x y : List Value) (xs ys : List (List Value)) → x ≡ y → SameBag (x ∷ xs) (y ∷ ys) → SameBag xs ys
unfolding times
tails_same x y xs ys e same = λ row. omega (arith, same row, ap (once row) e)

rises_same : (xs ys : List (List Value)) → Rises xs → Rises ys → SameBag xs ys → xs ≡ ys
unfolding times
rises_same [] [] up rise same = refl
rises_same [] (y ∷ ys) up rise same = absurd (omega (arith, some_there y ys, same y))
rises_same (x ∷ xs) [] up rise same = absurd (omega (arith, some_there x xs, same x))
rises_same (x ∷ xs) (y ∷ ys) up rise same =
    let head = heads_same x y xs ys up.0 rise.0 same in
    let tail = rises_same xs ys up.1 rise.1 (tails_same x y xs ys head same) in
    cc

-- ---- what sorting leaves

-- rows in their order, each as often as in xs, are xs sorted
pub sorted-is : (xs ys : List (List Value)) → IsSorted row_cmp ys → SameBag xs ys → ys ≡ sort_rows xs
sorted-is xs ys up same = rises_same ys (sort_rows xs) (rises_sorted ys up) (rises_sort xs) (λ row. sym (same row) ∙ sym (times-sort row xs))

-- lists of the same rows are equal once they are sorted
pub sort-bag : (xs ys : List (List Value)) → SameBag xs ys → sort_rows xs ≡ sort_rows ys
sort-bag xs ys same = rises_same (sort_rows xs) (sort_rows ys) (rises_sort xs) (rises_sort ys) (λ row. times-sort row xs ∙ same row ∙ sym (times-sort row ys))

-- what a sort of std leaves
pub sorted-permutation : (xs ys : List (List Value)) → IsSorted row_cmp ys → IsPermutation xs ys → ys ≡ sort_rows xs
sorted-permutation xs ys up moved = sorted-is xs ys up (SameBag-permutation xs ys moved)
