-- What stages make of rows.
use Rattle.std.specs.Prelude.{ℕ, ◌+◌, List, [], ◌∷◌, false, length}
use Rattle.std.specs.List.{flat_map}
use Rattle.amber_rows.specs.declared.value.Value.{Value}
use Rattle.amber_operators.specs.States.{row_yield}
use Rattle.amber_operators.specs.declared.operator_state.OperatorState.{OperatorState}

-- the rows that a stage makes of these
abbrev pub rows_after : OperatorState → List (List Value) → List (List Value)
rows_after stage rows = flat_map (row_yield stage false) rows

-- the rows that come out after all of these stages
unfoldable pub rows_through : List OperatorState → List (List Value) → List (List Value)
rows_through [] rows = rows
rows_through (stage ∷ later) rows = rows_through later (rows_after stage rows)

-- how many rows there are, before the first stage and after each
unfoldable pub count_through : List OperatorState → List (List Value) → ℕ
count_through [] rows = length rows
count_through (stage ∷ later) rows = length rows + count_through later (rows_after stage rows)
