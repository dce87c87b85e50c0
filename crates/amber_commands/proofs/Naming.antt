-- Ids, names and numbers: what a reply calls by its id, its name or its decimal is found again by it.
use Rattle.std.proofs.Common.{◌≡◌, ◌==◌, ℕ, zero, suc, ◌^◌, ◌<◌, ◌≤◌, true, false, Bool, List, [], ◌∷◌, ◌++◌, length, map, get_or, Some, refl, sym, ap, ◌∙◌, arith, bytes_eq, nat_le, nat_lt}
use Rattle.std.specs.Prelude.{not, ◌||◌, position, slice_get}
use Rattle.std.specs.Char.{is_ascii_digit}
use Rattle.std.specs.Fmt.{decimal}
use Rattle.std.specs.List.{list_all, position_or_len, prefix_len}
use Rattle.std.specs.Str.{all_ascii_digits}
use Rattle.std.specs.Str.Parse.{digits_value}
use Rattle.std.proofs.lemmas.Bool.{and_from, and_parts, not-true, false_from_ne_true, lt-ltb}
use Rattle.std.proofs.lemmas.Bool.Decides.{nat_tests}
use Rattle.std.proofs.lemmas.List.Folds.{list_any-append}
use Rattle.std.proofs.lemmas.Slice.Eq.{bytes_eq-Decides}
use Rattle.std.proofs.lemmas.Fmt.{decimal_digit, decimal_is_IsNumeral, first_decimal}
use Rattle.std.proofs.lemmas.Str.Parse.{numerals_by_value, tells_all_ascii_digits}
use Rattle.amber_rows.specs.Columns.{are_apart, is_among, names_of}
use Rattle.amber_rows.specs.FlowRules.{AreNext}
use Rattle.amber_rows.specs.declared.column.Column.{Column}
use Rattle.amber_rows.specs.declared.flow.Operator.{Operator}
use Rattle.amber_log.specs.Fits.{is_target}
use Rattle.amber_script.specs.Commands.{row_limit}
use Rattle.amber_script.specs.Numbers.{is_canonical, number_up_to, whole_number}
use Rattle.amber_script.proofs.WorkerWords.{all_digits}

-- ---- the first element that passes

-- no element before this place passes
unfoldable NoneBefore : {X : Type 0} → (X → Bool) → ℕ → List X → Type 0
NoneBefore p zero xs = Unit {0}
NoneBefore p (suc i) [] = Unit {0}
NoneBefore p (suc i) (x ∷ xs) = (p x ≡ false) × NoneBefore p i xs

first-place : {X : Type 0} (p : X → Bool) (xs : List X) (i : ℕ) (x : X) → slice_get xs i ≡ Some x → p x ≡ true → NoneBefore p i xs
    → (position_or_len p xs ≡ i) × (i < length xs)
unfolding NoneBefore
first-place p [] i x is passes none = absurd cc
first-place p (y ∷ ys) zero x is passes none = let same : y ≡ x = cc in (rw (same, passes) refl, omega arith)
first-place p (y ∷ ys) (suc i) x is passes none =
    let later = first-place p ys i x is passes none.1 in
    let before : prefix_len (λ z. not (p z)) ys ≡ i = later.0 in
    (rw none.0 (omega (arith, before)), omega (arith, later.1))

found-at : {X : Type 0} (p : X → Bool) (xs : List X) (i : ℕ) (x : X) → slice_get xs i ≡ Some x → p x ≡ true → NoneBefore p i xs → position p xs ≡ Some i
found-at p xs i x is passes none =
    let at = first-place p xs i x is passes none in
    rw (at.0, lt-ltb i (length xs) at.1) refl

-- ---- names that are apart

same-bytes : (a : List ℕ) → bytes_eq a a ≡ true
same-bytes a = (bytes_eq-Decides a a).1 refl

other-way : (a b : List ℕ) → bytes_eq a b ≡ false → bytes_eq b a ≡ false
other-way a b h = false_from_ne_true (bytes_eq b a) (λ t. let is : b ≡ a = (bytes_eq-Decides b a).0 t in let yes : bytes_eq a b ≡ true = (bytes_eq-Decides a b).1 (sym is) in cc)

or-none : (a b : Bool) → (a || b) ≡ false → (a ≡ false) × (b ≡ false)
or-none true b h = absurd cc
or-none false b h = (refl, h)

-- a name that is among none of some columns' is none of them
none-named : (name : List ℕ) (columns : List Column) (i : ℕ) (column : Column) → is_among name (names_of columns) ≡ false → slice_get columns i ≡ Some column
    → bytes_eq column.name name ≡ false
none-named name [] i column h is = absurd cc
none-named name (c ∷ cs) zero column h is = let same : c ≡ column = cc in rw same at (or-none (bytes_eq c.name name) (is_among name (names_of cs)) h).0
none-named name (c ∷ cs) (suc i) column h is = none-named name cs i column (or-none (bytes_eq c.name name) (is_among name (names_of cs)) h).1 is

columns-apart : (columns : List Column) (i : ℕ) (column : Column) → are_apart (names_of columns) ≡ true → slice_get columns i ≡ Some column
    → NoneBefore (λ other. bytes_eq other.name column.name) i columns
unfolding NoneBefore are_apart
columns-apart columns zero column h is = tt
columns-apart [] (suc i) column h is = tt
columns-apart (c ∷ cs) (suc i) column h is =
    let parts = and_parts (not (is_among c.name (names_of cs))) (are_apart (names_of cs)) h in
    (other-way column.name c.name (none-named c.name cs i column (not-true (is_among c.name (names_of cs)) parts.0) is), columns-apart cs i column parts.1 is)

-- a column is found by its name
pub column-found : (columns : List Column) (i : ℕ) (column : Column) → are_apart (names_of columns) ≡ true → slice_get columns i ≡ Some column
    → position (λ other. bytes_eq other.name column.name) columns ≡ Some i
column-found columns i column h is = found-at (λ other. bytes_eq other.name column.name) columns i column is (same-bytes column.name) (columns-apart columns i column h is)

-- ---- ids of operators

abbrev ids_of : List Operator → List (List ℕ)
ids_of flow = map (λ operator. operator.id) flow

ids-more : (flow : List Operator) (operator : Operator) → ids_of (flow ++ operator ∷ []) ≡ ids_of flow ++ operator.id ∷ []
ids-more [] operator = refl
ids-more (x ∷ xs) operator = ap (λ ids. x.id ∷ ids) (ids-more xs operator)

operators-apart : (before flow : List Operator) (i : ℕ) (operator : Operator) → AreNext before flow → slice_get flow i ≡ Some operator
    → NoneBefore (λ other. bytes_eq other.id operator.id) i flow × (is_among operator.id (ids_of before) ≡ false)
unfolding NoneBefore AreNext
operators-apart before [] i operator h is = absurd cc
operators-apart before (x ∷ xs) zero operator h is = let same : x ≡ operator = cc in (tt, rw same at h.0.fresh)
operators-apart before (x ∷ xs) (suc i) operator h is =
    let later = operators-apart (before ++ x ∷ []) xs i operator h.1 is in
    let split = rw (ids-more before x, list_any-append (λ other. bytes_eq other operator.id) (ids_of before) (x.id ∷ [])) at later.1 in
    let parts = or-none (is_among operator.id (ids_of before)) (bytes_eq x.id operator.id || false) split in
    (((or-none (bytes_eq x.id operator.id) false parts.1).0, later.0), parts.0)

-- an operator is found by its id
pub operator-found : (flow : List Operator) (i : ℕ) (operator : Operator) → AreNext [] flow → slice_get flow i ≡ Some operator
    → position (λ other. bytes_eq other.id operator.id) flow ≡ Some i
operator-found flow i operator h is = found-at (λ other. bytes_eq other.id operator.id) flow i operator is (same-bytes operator.id) (operators-apart [] flow i operator h is).0

-- ---- numbers

-- a number of rows is read from its decimal
pub rows-read : (n : ℕ) → is_target n ≡ true → number_up_to row_limit (decimal n) ≡ Some n
unfolding number_up_to
rows-read n h =
    let parts = and_parts (nat_lt 0 n) (nat_le n (2 ^ 40)) h in
    let few : n ≤ 2 ^ 40 = grind (arith, nat_tests) in
    let value : digits_value 10 (decimal n) ≡ n = (decimal_is_IsNumeral n (omega (arith, few))).1 in
    let some : nat_le 1 n ≡ true = grind (arith, nat_tests) in
    rw (value, same-bytes (decimal n), some, parts.1) refl

canonical-of : (ds : List ℕ) → all_ascii_digits ds ≡ true → 48 < get_or ds 0 0 → is_canonical ds ≡ true
canonical-of [] h first = absurd (omega (arith, first))
canonical-of (b ∷ []) h first = all_digits (b ∷ []) ∙ h
canonical-of (b ∷ c ∷ more) h first =
    let other : (b == 48) ≡ false = grind (arith, nat_tests) in
    and_from (not (b == 48)) (list_all is_ascii_digit (b ∷ c ∷ more)) (rw other refl) (all_digits (b ∷ c ∷ more) ∙ h)

canonical-decimal : (n : ℕ) → n < 2 ^ 64 → is_canonical (decimal n) ≡ true
canonical-decimal zero small = rw (decimal_digit 0 (omega arith)) refl
canonical-decimal (suc n) small =
    canonical-of (decimal (suc n)) ((numerals_by_value _ tells_all_ascii_digits).from (decimal (suc n)) (decimal_is_IsNumeral (suc n) small).0.1)
    (first_decimal (suc n) (omega arith) small)

-- the number of a worker is read from its decimal
pub worker-read : (n : ℕ) → n < 2 ^ 64 → whole_number (decimal n) ≡ Some n
unfolding whole_number
worker-read n small = rw (canonical-decimal n small, (decimal_is_IsNumeral n small).1) refl
