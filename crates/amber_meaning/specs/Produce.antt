-- What a worker produces of what it is handed.
use Rattle.std.specs.Prelude.{ℕ, List, [], ◌∷◌, ◌++◌, Option, Some, None}
use Rattle.std.specs.List.{filter_map}
use Rattle.amber_rows.specs.declared.value.Value.{Value}
use Rattle.amber_meaning.specs.Kinds.{closing_rows, yields_row}
use Rattle.amber_meaning.specs.Task.{Arrival, Task, suiting}

abbrev pub yields_if : Task → List Arrival → ℕ → List Value → Option (List Value) → List (List Value)
yields_if task before from constants None = []
yields_if task before from constants (Some row) = yields_row task task.kind before from constants row

-- the rows that something handed to a worker yields, where these were handed before it
unfoldable pub yields : Task → List Arrival → Arrival → List Value → List (List Value)
yields task before arrival constants = yields_if task before arrival.from constants (suiting task arrival)

-- what a worker produces of what it was handed, of which it took as many as there are constants, each under those then in force
unfoldable pub produce : Task → List Arrival → List Arrival → List (List Value) → List (List Value)
produce task before [] constants = []
produce task before (arrival ∷ more) [] = []
produce task before (arrival ∷ more) (constants ∷ later) = yields task before arrival constants ++ produce task (before ++ arrival ∷ []) more later

-- what a worker produces at the end, once it was handed all of this: the rows of its groups
unfoldable pub closing : Task → List Arrival → List (List Value)
closing task arrivals = closing_rows task.kind (filter_map (suiting task) arrivals)
