-- The order of rows: numbers before texts, numbers by size, texts by bytes; cell by cell, a proper beginning first.
use Rattle.std.specs.Prelude.{◌≡◌, ℕ, ◌+◌, List, [], ◌∷◌, if◌then◌else◌}
use Rattle.std.specs.Ordering.{nat_cmp, int_cmp, is_eq, is_gt}
use Rattle.std.specs.declared.cmp.Ordering.{Ordering}
use Rattle.std.specs.declared.cmp.Ordering.TheVariants.{Less, Greater}
use Rattle.std.specs.Cmp.Lexicographic.{slice_cmp}
use Rattle.amber_rows.specs.declared.value.Value.{Value}
use Rattle.amber_rows.specs.declared.value.Value.TheVariants.{Int, Text}

abbrev pub value_cmp : Value → Value → Ordering
value_cmp (Int m) (Int n) = int_cmp m n
value_cmp (Int m) (Text t) = Less
value_cmp (Text s) (Int n) = Greater
value_cmp (Text s) (Text t) = slice_cmp nat_cmp s t

abbrev pub row_cmp : List Value → List Value → Ordering
row_cmp = slice_cmp value_cmp

-- a row put into sorted rows: before the first that is greater
unfoldable pub insert_row : List Value → List (List Value) → List (List Value)
insert_row row [] = row ∷ []
insert_row row (x ∷ xs) = if is_gt (row_cmp row x) then x ∷ insert_row row xs else row ∷ x ∷ xs

-- rows in their order, each as often as it was there
unfoldable pub sort_rows : List (List Value) → List (List Value)
sort_rows [] = []
sort_rows (x ∷ xs) = insert_row x (sort_rows xs)

-- how often a row stands in a list
unfoldable pub times : List Value → List (List Value) → ℕ
times row [] = 0
times row (x ∷ xs) = (if is_eq (row_cmp row x) then 1 else 0) + times row xs

-- each row stands as often in one list as in the other
abbrev pub SameBag : List (List Value) → List (List Value) → Type 0
SameBag xs ys = (row : List Value) → times row xs ≡ times row ys
