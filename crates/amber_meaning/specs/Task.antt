-- What a worker has to do: what it is handed, and which rows of it suit.
use Rattle.std.specs.Prelude.{ℕ, ◌==◌, List, filter, Option, Some, None, Result, Ok, Err, Bool, if◌then◌else◌}
use Rattle.std.specs.List.{filter_map, list_any}
use Rattle.amber_rows.specs.Suits.{suits_of}
use Rattle.amber_rows.specs.declared.value.Value.{Value}
use Rattle.amber_rows.specs.declared.column.Column.{Column}
use Rattle.amber_rows.specs.declared.record.RowFault.{RowFault}
use Rattle.amber_rows.specs.declared.flow.What.{What}

-- a row that a worker is handed, and the worker that sent it; for a scan a typed record, and its number
pub record Arrival : Type 0 where
  pub from : ℕ
  pub what : Result (List Value) RowFault

-- what all workers of an operator have in common: what they do, the columns of the rows that they are handed (of a join's probe
-- side), and of a join's build side the columns and the workers
pub record Task : Type 0 where
  pub kind : What
  pub columns : List Column
  pub build_columns : List Column
  pub builders : List ℕ

-- a worker: its task, the workers that send to it, and for a scan its share of the records
pub record Role : Type 0 where
  pub task : Task
  pub senders : List ℕ
  pub share : List Arrival

-- ---- rows that suit

-- whether a row comes from the build side
abbrev pub is_builder : Task → ℕ → Bool
is_builder task from = list_any (λ builder. builder == from) task.builders

-- the columns that a row from this worker has
abbrev pub columns_from : Task → ℕ → List Column
columns_from task from = if is_builder task from then task.build_columns else task.columns

abbrev pub row_in : List Column → Result (List Value) RowFault → Option (List Value)
row_in columns (Err why) = None
row_in columns (Ok row) = if suits_of columns row then Some row else None

-- the row that a worker was handed, if it is one and suits its columns
abbrev pub suiting : Task → Arrival → Option (List Value)
suiting task arrival = row_in (columns_from task arrival.from) arrival.what

-- the rows that a worker took and that suit
abbrev pub rows_in : Task → List Arrival → List (List Value)
rows_in task arrivals = filter_map (suiting task) arrivals

-- the build side of what a worker was handed
unfoldable pub built_of : Task → List Arrival → List (List Value)
built_of task arrivals = filter_map (suiting task) (filter (λ one. is_builder task one.from) arrivals)
