-- What an operator gives of one row by itself.
use Rattle.std.specs.Prelude.{List, [], ◌∷◌}
use Rattle.amber_rows.specs.declared.value.Value.{Value}
use Rattle.amber_operators.specs.declared.yielding.Yielded.{Yielded}
use Rattle.amber_operators.specs.declared.yielding.Yielded.TheVariants as yielded

-- the rows that are given of this row
abbrev pub rows_given : Yielded → List Value → List (List Value)
rows_given yielded.Nothing row = []
rows_given yielded.Same row = row ∷ []
rows_given (yielded.Other made) row = made ∷ []
rows_given (yielded.Many rows) row = rows
