-- The earlier operators from which an operator reads.
use Rattle.std.specs.Prelude.{ℕ, ◌+◌, ◌≤◌, List, length, Option, option_map, position, bytes_eq}
use Rattle.amber_rows.specs.Lists.{nth}
use Rattle.amber_rows.specs.declared.column.Column.{Column}
use Rattle.amber_rows.specs.declared.flow.Operator.{Operator}

-- the number of the operator with this id
abbrev pub operator_number : List Operator → List ℕ → Option ℕ
operator_number before id = option_map (λ index. index + 1) (position (λ operator. bytes_eq operator.id id) before)

-- the columns of the operator with a number
abbrev pub operator_columns : List Operator → ℕ → Option (List Column)
operator_columns before number = option_map (λ operator. operator.schema) (nth before number)

-- no more columns than an operator may give
abbrev pub IsNarrow : Operator → Type 0
IsNarrow operator = length operator.schema ≤ 64
