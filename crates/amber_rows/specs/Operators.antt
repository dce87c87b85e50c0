-- What each kind of operator makes of lists of rows.
use Rattle.std.specs.Prelude.{ℕ, ◌+ℤ◌, ℤ, pos, not, List, [], ◌∷◌, ◌++◌, length, map, filter, Option, Some, None, option_map, option_and_then, Bool, if◌then◌else◌}
use Rattle.std.specs.List.{filter_map, flat_map}
use Rattle.std.specs.Ordering.{is_eq, is_gt, is_lt}
use Rattle.amber_rows.specs.Lists.{nth}
use Rattle.amber_rows.specs.Number.{fits_i64}
use Rattle.amber_rows.specs.Order.{row_cmp, value_cmp}
use Rattle.amber_rows.specs.declared.value.Value.{Value}
use Rattle.amber_rows.specs.declared.value.Value.TheVariants.{Int, Text}
use Rattle.amber_rows.specs.declared.agg.Agg.{Agg}
use Rattle.amber_rows.specs.declared.agg.Agg.TheVariants.{Count, Sum, Min, Max}

-- ---- columns of a row

-- the cells of these columns, in this order
unfoldable pub pick_cells : List ℕ → List Value → List Value
pick_cells columns row = filter_map (nth row) columns

-- whether two rows are equal
abbrev pub same_row : List Value → List Value → Bool
same_row a b = is_eq (row_cmp a b)

-- ---- project, join

-- each row with these columns alone
unfoldable pub project_result : List ℕ → List (List Value) → List (List Value)
project_result columns rows = map (pick_cells columns) rows

-- a probe row before each build row whose keys equal its own, in the order of the build rows
unfoldable pub matches_of : List ℕ → List ℕ → List (List Value) → List Value → List (List Value)
matches_of build_keys probe_keys build row =
    map (λ other. row ++ other) (filter (λ other. same_row (pick_cells build_keys other) (pick_cells probe_keys row)) build)

-- the matches of the probe rows, in their order
unfoldable pub join_result : List ℕ → List ℕ → List (List Value) → List (List Value) → List (List Value)
join_result build_keys probe_keys build probe = flat_map (matches_of build_keys probe_keys build) probe

-- ---- group

-- the keys of rows, each where it stands first
unfoldable pub first_keys : List ℕ → List (List Value) → List (List Value)
first_keys keys [] = []
first_keys keys (row ∷ rows) = pick_cells keys row ∷ filter (λ key. not (same_row key (pick_cells keys row))) (first_keys keys rows)

-- the rows with a key
abbrev pub rows_with : List ℕ → List (List Value) → List Value → List (List Value)
rows_with keys rows key = filter (λ row. same_row (pick_cells keys row) key) rows

-- the cells of a column
abbrev pub cells_at : ℕ → List (List Value) → List Value
cells_at column rows = filter_map (λ row. nth row column) rows

-- a value as a number; texts are never summed
abbrev pub number_of : Value → ℤ
number_of (Int n) = n
number_of (Text t) = pos 0

-- the exact sum, however large
unfoldable pub total_of : List Value → ℤ
total_of [] = pos 0
total_of (cell ∷ cells) = number_of cell +ℤ total_of cells

-- the least value, and the greatest, beginning with one of them
unfoldable pub least_of : Value → List Value → Value
least_of best [] = best
least_of best (cell ∷ cells) = least_of (if is_lt (value_cmp cell best) then cell else best) cells

unfoldable pub greatest_of : Value → List Value → Value
greatest_of best [] = best
greatest_of best (cell ∷ cells) = greatest_of (if is_gt (value_cmp cell best) then cell else best) cells

-- a number as a value, where 64 bits hold it
abbrev pub int_value : ℤ → Option Value
int_value n = if fits_i64 n then Some (Int n) else None

abbrev pub least_value : List Value → Option Value
least_value [] = None
least_value (cell ∷ cells) = Some (least_of cell cells)

abbrev pub greatest_value : List Value → Option Value
greatest_value [] = None
greatest_value (cell ∷ cells) = Some (greatest_of cell cells)

-- an aggregate of rows; none where a sum leaves 64 bits
unfoldable pub agg_value : List (List Value) → Agg → Option Value
agg_value rows Count = int_value (pos (length rows))
agg_value rows (Sum column) = int_value (total_of (cells_at column rows))
agg_value rows (Min column) = least_value (cells_at column rows)
agg_value rows (Max column) = greatest_value (cells_at column rows)

-- a value for each aggregate, where each has one
unfoldable pub agg_values : List (List Value) → List Agg → Option (List Value)
agg_values rows [] = Some []
agg_values rows (agg ∷ aggs) = option_and_then (λ cell. option_map (λ cells. cell ∷ cells) (agg_values rows aggs)) (agg_value rows agg)

-- the row of a key, if its aggregates have values
abbrev pub group_row : List ℕ → List Agg → List (List Value) → List Value → Option (List Value)
group_row keys aggs rows key = option_map (λ cells. key ++ cells) (agg_values (rows_with keys rows key) aggs)

abbrev pub key_if_none : {A : Type 0} → List Value → Option A → Option (List Value)
key_if_none key None = Some key
key_if_none key (Some x) = None

-- each key with its aggregates, in the order in which the keys stand first
unfoldable pub group_result : List ℕ → List Agg → List (List Value) → List (List Value)
group_result keys aggs rows = filter_map (group_row keys aggs rows) (first_keys keys rows)

-- the keys with a sum that leaves 64 bits, in the same order
unfoldable pub refused_keys : List ℕ → List Agg → List (List Value) → List (List Value)
refused_keys keys aggs rows = filter_map (λ key. key_if_none key (group_row keys aggs rows key)) (first_keys keys rows)
