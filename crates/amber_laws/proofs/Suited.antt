-- A row suits columns where its cells are of the columns' kinds; what each operator gives suits its columns.
use Rattle.std.proofs.Common.{◌≡◌, ℕ, ◌-◌, not, cond, eqb, Bool, true, false, Option, Some, None, option_map, option_and_then, ℤ, pos, List, [], ◌∷◌, ◌++◌, length, map, filter, slice_get, refl, sym, ◌∙◌, ap}
use Rattle.std.specs.List.{cons_option, filter_map, flat_map, list_all}
use Rattle.std.proofs.lemmas.Bool.{and_from, and_parts, false≢true}
use Rattle.std.proofs.lemmas.List.{map-append}
use Rattle.std.proofs.lemmas.List.Folds.{list_all-append}
use Rattle.std.specs.Ordering.{is_gt, is_lt}
use Rattle.std.proofs.lemmas.Option.{none-some, same_Some, slice_get-map}
use Rattle.amber_rows.specs.Lists.{nth}
use Rattle.amber_rows.specs.Columns.{agg_kind, column_kinds, kind_of, kinds_at}
use Rattle.amber_rows.specs.Number.{fits_i64}
use Rattle.amber_rows.specs.Operators.{agg_value, agg_values, cells_at, first_keys, greatest_of, greatest_value, group_row, group_result, int_value, least_of, least_value, matches_of, pick_cells, rows_with, same_row, total_of}
use Rattle.amber_rows.specs.Order.{value_cmp}
use Rattle.amber_rows.specs.Suits.{same_kind, suits_of}
use Rattle.amber_rows.specs.declared.agg.Agg.{Agg}
use Rattle.amber_rows.specs.declared.agg.Agg.TheVariants as agg
use Rattle.amber_rows.specs.declared.value.Value.{Value}
use Rattle.amber_rows.specs.declared.value.Value.TheVariants as value
use Rattle.amber_rows.specs.declared.column.ColKind.{ColKind}
use Rattle.amber_rows.specs.declared.column.ColKind.TheVariants as kind
use Rattle.amber_rows.specs.declared.column.Column.{Column}

-- ---- rows that suit

same_kind_is : (a b : ColKind) → same_kind a b ≡ true → a ≡ b
same_kind_is kind.Int kind.Int e = refl
same_kind_is kind.Int kind.Text e = absurd (false≢true e)
same_kind_is kind.Text kind.Int e = absurd (false≢true e)
same_kind_is kind.Text kind.Text e = refl

same_kind_itself : (a : ColKind) → same_kind a a ≡ true
same_kind_itself kind.Int = refl
same_kind_itself kind.Text = refl

-- the kinds of a row's cells
abbrev pub kinds_in : List Value → List ColKind
kinds_in row = map kind_of row

pub suits-kinds : (columns : List Column) (row : List Value) → suits_of columns row ≡ true → column_kinds columns ≡ kinds_in row
unfolding suits_of
suits-kinds [] [] h = refl
suits-kinds [] (cell ∷ row) h = absurd (false≢true h)
suits-kinds (column ∷ columns) [] h = absurd (false≢true h)
suits-kinds (column ∷ columns) (cell ∷ row) h =
    let parts = and_parts (same_kind column.kind (kind_of cell)) (suits_of columns row) h in
    rw (same_kind_is column.kind (kind_of cell) parts.0, suits-kinds columns row parts.1) refl

first_same : {A : Type 0} (x y : A) (xs ys : List A) → x ∷ xs ≡ y ∷ ys → x ≡ y
first_same x y xs ys e = cc

rest_same : {A : Type 0} (x y : A) (xs ys : List A) → x ∷ xs ≡ y ∷ ys → xs ≡ ys
rest_same x y xs ys e = cc

pub kinds-suit : (columns : List Column) (row : List Value) → column_kinds columns ≡ kinds_in row → suits_of columns row ≡ true
unfolding suits_of
kinds-suit [] [] e = refl
kinds-suit [] (cell ∷ row) e = absurd (cc)
kinds-suit (column ∷ columns) [] e = absurd (cc)
kinds-suit (column ∷ columns) (cell ∷ row) e =
    and_from (same_kind column.kind (kind_of cell)) (suits_of columns row)
    (ap (λ k. same_kind k (kind_of cell)) (first_same column.kind (kind_of cell) (column_kinds columns) (kinds_in row) e) ∙ same_kind_itself (kind_of cell))
    (kinds-suit columns row (rest_same column.kind (kind_of cell) (column_kinds columns) (kinds_in row) e))

both_cons : {A : Type 0} (x y : A) (xs ys : List A) → x ≡ y → xs ≡ ys → x ∷ xs ≡ y ∷ ys
both_cons x y xs ys e f = rw (e, f) refl

both_append : {A : Type 0} (ws xs ys zs : List A) → ws ≡ xs → ys ≡ zs → ws ++ ys ≡ xs ++ zs
both_append ws xs ys zs e f = rw (e, f) refl

-- ---- cells by number

pub numbered_map : {A B : Type 0} (f : A → B) (xs : List A) (n : ℕ) → nth (map f xs) n ≡ option_map f (nth xs n)
numbered_map f xs n = by (eqb n 0)
  where
    by : (b : Bool) → cond b None (slice_get (map f xs) (n - 1)) ≡ option_map f (cond b None (slice_get xs (n - 1)))
    by true = refl
    by false = slice_get-map f xs (n - 1)

map_some : {A B : Type 0} (f : A → B) (o : Option A) (xs : List A) → map f (cons_option o xs) ≡ cons_option (option_map f o) (map f xs)
map_some f None xs = refl
map_some f (Some x) xs = refl

-- numbers look up in a list that is mapped what they look up in the list, mapped
looked_up : {A B : Type 0} (f : A → B) (xs : List A) (ns : List ℕ) → map f (filter_map (nth xs) ns) ≡ filter_map (nth (map f xs)) ns
looked_up f xs [] = refl
looked_up f xs (n ∷ ns) = map_some f (nth xs n) (filter_map (nth xs) ns) ∙ rw (numbered_map f xs n, looked_up f xs ns) refl

-- the picked cells of a row that suits are of the kinds of the picked columns
pub pick_cells-kinds : (columns : List Column) (row : List Value) (numbers : List ℕ) → suits_of columns row ≡ true → kinds_in (pick_cells numbers row) ≡ kinds_at columns numbers
unfolding pick_cells
pick_cells-kinds columns row numbers h =
    looked_up kind_of row numbers ∙ ap (λ kinds. filter_map (nth kinds) numbers) (sym (suits-kinds columns row h))
    ∙ sym (looked_up (λ (column : Column). column.kind) columns numbers)

-- ---- all rows of a list suit

pub all-flat : {X Y : Type 0} (test : Y → Bool) (f : X → List Y) → ((x : X) → list_all test (f x) ≡ true) → (xs : List X) → list_all test (flat_map f xs) ≡ true
all-flat test f h [] = refl
all-flat test f h (x ∷ xs) =
    list_all-append test (f x) (flat_map f xs) ∙ and_from (list_all test (f x)) (list_all test (flat_map f xs)) (h x) (all-flat test f h xs)

pub all-kept : {X : Type 0} (test : X → Bool) (keep : X → Bool) (xs : List X) → list_all test xs ≡ true → list_all test (filter keep xs) ≡ true
all-kept test keep [] h = refl
all-kept test keep (x ∷ xs) h = by (keep x) (and_parts (test x) (list_all test xs) h).0 (all-kept test keep xs (and_parts (test x) (list_all test xs) h).1)
  where
    by : (b : Bool) → test x ≡ true → list_all test (filter keep xs) ≡ true → list_all test (cond b (x ∷ filter keep xs) (filter keep xs)) ≡ true
    by true e rest = and_from (test x) (list_all test (filter keep xs)) e rest
    by false e rest = rest

pub all-mapped : {X Y : Type 0} (test : Y → Bool) (from : X → Bool) (f : X → Y) → ((x : X) → from x ≡ true → test (f x) ≡ true) → (xs : List X) → list_all from xs ≡ true
    → list_all test (map f xs) ≡ true
all-mapped test from f h [] k = refl
all-mapped test from f h (x ∷ xs) k =
    let parts = and_parts (from x) (list_all from xs) k in
    and_from (test (f x)) (list_all test (map f xs)) (h x parts.0) (all-mapped test from f h xs parts.1)

pub all-found : {X Y : Type 0} (test : Y → Bool) (from : X → Bool) (f : X → Option Y) → ((x : X) (y : Y) → from x ≡ true → f x ≡ Some y → test y ≡ true) → (xs : List X)
    → list_all from xs ≡ true → list_all test (filter_map f xs) ≡ true
all-found test from f h [] k = refl
all-found test from f h (x ∷ xs) k =
    by (f x) refl (and_parts (from x) (list_all from xs) k).0 (all-found test from f h xs (and_parts (from x) (list_all from xs) k).1)
  where
    by : (o : Option _) → f x ≡ o → from x ≡ true → list_all test (filter_map f xs) ≡ true → list_all test (cons_option o (filter_map f xs)) ≡ true
    by None e d rest = rest
    by (Some y) e d rest = and_from (test y) (list_all test (filter_map f xs)) (h x y d e) rest

pub all-true : {X : Type 0} (xs : List X) → list_all (λ (x : X). true) xs ≡ true
all-true [] = refl
all-true (x ∷ xs) = all-true xs

-- ---- project and join

pub pick_cells-suit : (columns made : List Column) (row : List Value) (numbers : List ℕ) → column_kinds made ≡ kinds_at columns numbers → suits_of columns row ≡ true
    → suits_of made (pick_cells numbers row) ≡ true
pick_cells-suit columns made row numbers e h = kinds-suit made (pick_cells numbers row) (e ∙ sym (pick_cells-kinds columns row numbers h))

pub beside-suit : (left right : List Column) (row other : List Value) → suits_of left row ≡ true → suits_of right other ≡ true → suits_of (left ++ right) (row ++ other) ≡ true
beside-suit left right row other h k =
    kinds-suit (left ++ right) (row ++ other)
    (map-append (λ (column : Column). column.kind) left right ∙ rw (suits-kinds left row h, suits-kinds right other k) (sym (map-append kind_of row other)))

pub matches-suit : (left right : List Column) (build_keys probe_keys : List ℕ) (build : List (List Value)) (row : List Value)
    → suits_of left row ≡ true → list_all (suits_of right) build ≡ true → list_all (suits_of (left ++ right)) (matches_of build_keys probe_keys build row) ≡ true
unfolding matches_of
matches-suit left right build_keys probe_keys build row h k =
    let keep = λ (other : List Value). same_row (pick_cells build_keys other) (pick_cells probe_keys row) in
    all-mapped (suits_of (left ++ right)) (suits_of right) (λ other. row ++ other) (λ other e. beside-suit left right row other h e) (filter keep build)
    (all-kept (suits_of right) keep build k)

-- ---- group

-- whether a value is of a kind
abbrev is_kind : ColKind → Value → Bool
is_kind k v = same_kind k (kind_of v)

kept_kind : (k : ColKind) (b : Bool) (v best : Value) → is_kind k v ≡ true → is_kind k best ≡ true → is_kind k (cond b v best) ≡ true
kept_kind k true v best e h = e
kept_kind k false v best e h = h

least_kind : (k : ColKind) (best : Value) (cells : List Value) → is_kind k best ≡ true → list_all (is_kind k) cells ≡ true → is_kind k (least_of best cells) ≡ true
unfolding least_of
least_kind k best [] h e = h
least_kind k best (cell ∷ cells) h e =
    let parts = and_parts (is_kind k cell) (list_all (is_kind k) cells) e in
    least_kind k (cond (is_lt (value_cmp cell best)) cell best) cells (kept_kind k (is_lt (value_cmp cell best)) cell best parts.0 h) parts.1

greatest_kind : (k : ColKind) (best : Value) (cells : List Value) → is_kind k best ≡ true → list_all (is_kind k) cells ≡ true → is_kind k (greatest_of best cells) ≡ true
unfolding greatest_of
greatest_kind k best [] h e = h
greatest_kind k best (cell ∷ cells) h e =
    let parts = and_parts (is_kind k cell) (list_all (is_kind k) cells) e in
    greatest_kind k (cond (is_gt (value_cmp cell best)) cell best) cells (kept_kind k (is_gt (value_cmp cell best)) cell best parts.0 h) parts.1

least_value_kind : (k : ColKind) (cells : List Value) (v : Value) → list_all (is_kind k) cells ≡ true → least_value cells ≡ Some v → k ≡ kind_of v
least_value_kind k [] v h e = absurd (none-some v e)
least_value_kind k (cell ∷ cells) v h e =
    let parts = and_parts (is_kind k cell) (list_all (is_kind k) cells) h in
    same_kind_is k (kind_of v) (ap (is_kind k) (sym (same_Some (least_of cell cells) v e)) ∙ least_kind k cell cells parts.0 parts.1)

greatest_value_kind : (k : ColKind) (cells : List Value) (v : Value) → list_all (is_kind k) cells ≡ true → greatest_value cells ≡ Some v → k ≡ kind_of v
greatest_value_kind k [] v h e = absurd (none-some v e)
greatest_value_kind k (cell ∷ cells) v h e =
    let parts = and_parts (is_kind k cell) (list_all (is_kind k) cells) h in
    same_kind_is k (kind_of v) (ap (is_kind k) (sym (same_Some (greatest_of cell cells) v e)) ∙ greatest_kind k cell cells parts.0 parts.1)

int_value_kind : (n : ℤ) (v : Value) → int_value n ≡ Some v → kind.Int ≡ kind_of v
int_value_kind n v e = by (fits_i64 n) e
  where
    by : (b : Bool) → cond b (Some (value.Int n)) None ≡ Some v → kind.Int ≡ kind_of v
    by true f = ap kind_of (same_Some (value.Int n) v f)
    by false f = absurd (none-some v f)

found_kind : {A : Type 0} (k l : A) (o p : Option A) → o ≡ Some k → p ≡ Some l → o ≡ p → k ≡ l
found_kind k l o p d e f = same_Some k l (sym d ∙ f ∙ e)

-- the cells of a column are of its kind
cells_kind : (columns : List Column) (column : ℕ) (k : ColKind) → option_map (λ c. c.kind) (nth columns column) ≡ Some k → (rows : List (List Value))
    → list_all (suits_of columns) rows ≡ true → list_all (is_kind k) (cells_at column rows) ≡ true
cells_kind columns column k e rows h =
    all-found (is_kind k) (suits_of columns) (λ row. nth row column)
    (λ row v s f.
    let there : option_map kind_of (nth row column) ≡ Some (kind_of v) = ap (option_map kind_of) f in
    let same : k ≡ kind_of v = same_Some k (kind_of v)
    (sym e ∙ sym (numbered_map (λ (c : Column). c.kind) columns column) ∙ ap (λ kinds. nth kinds column) (suits-kinds columns row s) ∙ numbered_map kind_of row column ∙ there) in
    ap (λ l. same_kind l (kind_of v)) same ∙ same_kind_itself (kind_of v)) rows h

-- the value of an aggregate is of its kind
agg_value_kind : (columns : List Column) (rows : List (List Value)) (one : Agg) (k : ColKind) (v : Value) → list_all (suits_of columns) rows ≡ true
    → agg_kind columns one ≡ Some k → agg_value rows one ≡ Some v → k ≡ kind_of v
unfolding agg_value
agg_value_kind columns rows agg.Count k v h e f = sym (same_Some kind.Int k e) ∙ int_value_kind (pos (length rows)) v f
agg_value_kind columns rows (agg.Sum column) k v h e f = by (option_map (λ c. c.kind) (nth columns column)) refl e ∙ int_value_kind (total_of (cells_at column rows)) v f
  where
    by : (o : Option ColKind) → option_map (λ c. c.kind) (nth columns column) ≡ o → agg_kind columns (agg.Sum column) ≡ Some k → k ≡ kind.Int
    by None s d = absurd (none-some k (rw s at d))
    by (Some kind.Int) s d = sym (same_Some kind.Int k (rw s at d))
    by (Some kind.Text) s d = absurd (none-some k (rw s at d))
agg_value_kind columns rows (agg.Min column) k v h e f = least_value_kind k (cells_at column rows) v (cells_kind columns column k e rows h) f
agg_value_kind columns rows (agg.Max column) k v h e f = greatest_value_kind k (cells_at column rows) v (cells_kind columns column k e rows h) f

some_mapped : {A B : Type 0} (f : A → B) (o : Option A) (y : B) → option_map f o ≡ Some y → (x : A) × (o ≡ Some x) × (f x ≡ y)
some_mapped f None y e = absurd (none-some y e)
some_mapped f (Some x) y e = (x, refl, same_Some (f x) y e)

agg_values_kinds : (columns : List Column) (rows : List (List Value)) (aggs : List Agg) (kinds : List ColKind) (cells : List Value) → list_all (suits_of columns) rows ≡ true
    → map Some kinds ≡ map (agg_kind columns) aggs → agg_values rows aggs ≡ Some cells → kinds ≡ kinds_in cells
unfolding agg_values
agg_values_kinds columns rows [] [] cells h e f = ap kinds_in (same_Some [] cells f)
agg_values_kinds columns rows [] (k ∷ kinds) cells h e f = absurd (cc)
agg_values_kinds columns rows (one ∷ aggs) [] cells h e f = absurd (cc)
agg_values_kinds columns rows (one ∷ aggs) (k ∷ kinds) cells h e f =
    by (agg_value rows one) refl f (agg_values_kinds columns rows aggs kinds)
  where
    first : agg_kind columns one ≡ Some k
    first = sym (first_same (Some k) (agg_kind columns one) (map Some kinds) (map (agg_kind columns) aggs) e)

    rest : map Some kinds ≡ map (agg_kind columns) aggs
    rest = rest_same (Some k) (agg_kind columns one) (map Some kinds) (map (agg_kind columns) aggs) e

    by : (o : Option Value) → agg_value rows one ≡ o → option_and_then (λ cell. option_map (λ more. cell ∷ more) (agg_values rows aggs)) o ≡ Some cells
        → ((more : List Value) → list_all (suits_of columns) rows ≡ true → map Some kinds ≡ map (agg_kind columns) aggs → agg_values rows aggs ≡ Some more → kinds ≡ kinds_in more)
        → k ∷ kinds ≡ kinds_in cells
    by None d g later = absurd (none-some cells g)
    by (Some v) d g later =
        let made = some_mapped (λ more. v ∷ more) (agg_values rows aggs) cells g in
        let here : k ≡ kind_of v = agg_value_kind columns rows one k v h first d in
        let there : kinds ≡ kinds_in made.0 = later made.0 h rest made.1 in
        both_cons k (kind_of v) kinds (kinds_in made.0) here there ∙ ap kinds_in made.2

-- the columns with these numbers
abbrev pub picked_columns : List Column → List ℕ → List Column
picked_columns columns numbers = filter_map (nth columns) numbers

first_keys_suit : (columns : List Column) (keys : List ℕ) (rows : List (List Value)) → list_all (suits_of columns) rows ≡ true
    → list_all (suits_of (picked_columns columns keys)) (first_keys keys rows) ≡ true
unfolding first_keys
first_keys_suit columns keys [] h = refl
first_keys_suit columns keys (row ∷ rows) h =
    let parts = and_parts (suits_of columns row) (list_all (suits_of columns) rows) h in
    and_from (suits_of (picked_columns columns keys) (pick_cells keys row)) (list_all (suits_of (picked_columns columns keys)) (filter (λ key. not (same_row key (pick_cells keys row))) (first_keys keys rows)))
    (pick_cells-suit columns (picked_columns columns keys) row keys refl parts.0)
    (all-kept (suits_of (picked_columns columns keys)) (λ key. not (same_row key (pick_cells keys row))) (first_keys keys rows) (first_keys_suit columns keys rows parts.1))

split_kinds : (kinds front : List ColKind) (back : List (Option ColKind)) → map Some kinds ≡ map Some front ++ back
    → (rest : List ColKind) × (kinds ≡ front ++ rest) × (map Some rest ≡ back)
split_kinds kinds [] back e = (kinds, refl, e)
split_kinds [] (k ∷ front) back e = absurd (cc)
split_kinds (l ∷ kinds) (k ∷ front) back e =
    let same : l ≡ k = same_Some l k (first_same (Some l) (Some k) (map Some kinds) (map Some front ++ back) e) in
    let more = split_kinds kinds front back (rest_same (Some l) (Some k) (map Some kinds) (map Some front ++ back) e) in
    (more.0, both_cons l k kinds (front ++ more.0) same more.1, more.2)

pub group_result-suit : (columns made : List Column) (keys : List ℕ) (aggs : List Agg) (rows : List (List Value)) → list_all (suits_of columns) rows ≡ true
    → map Some (column_kinds made) ≡ map Some (kinds_at columns keys) ++ map (agg_kind columns) aggs
    → list_all (suits_of made) (group_result keys aggs rows) ≡ true
unfolding group_result
group_result-suit columns made keys aggs rows h e =
    let parts = split_kinds (column_kinds made) (kinds_at columns keys) (map (agg_kind columns) aggs) e in
    all-found (suits_of made) (suits_of (picked_columns columns keys)) (group_row keys aggs rows)
    (λ key row s f.
    let found = some_mapped (λ cells. key ++ cells) (agg_values (rows_with keys rows key) aggs) row f in
    let own : kinds_at columns keys ≡ kinds_in key = suits-kinds (picked_columns columns keys) key s in
    let values : parts.0 ≡ kinds_in found.0 =
    agg_values_kinds columns (rows_with keys rows key) aggs parts.0 found.0 (all-kept (suits_of columns) (λ one. same_row (pick_cells keys one) key) rows h) parts.2 found.1 in
    kinds-suit made row (parts.1 ∙ both_append (kinds_at columns keys) (kinds_in key) parts.0 (kinds_in found.0) own values ∙ sym (map-append kind_of key found.0) ∙ ap kinds_in found.2))
    (first_keys keys rows) (first_keys_suit columns keys rows h)
