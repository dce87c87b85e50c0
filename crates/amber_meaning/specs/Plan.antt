-- The roles of a workflow's workers, from the typed records of its scans.
use Rattle.std.specs.Prelude.{ℕ, ◌-◌, List, [], Result, Option, Some, None, unwrap_or}
use Rattle.amber_rows.specs.Shares.{share_of, with_numbers}
use Rattle.amber_rows.specs.Kinds.{build_input, main_input}
use Rattle.amber_rows.specs.Topology.{first_worker_of, op_of, senders_of, what_at, worker_count, workers_of}
use Rattle.amber_rows.specs.Columns.{columns_at}
use Rattle.amber_rows.specs.declared.value.Value.{Value}
use Rattle.amber_rows.specs.declared.column.Column.{Column}
use Rattle.amber_rows.specs.declared.record.RowFault.{RowFault}
use Rattle.amber_rows.specs.declared.flow.What.{What}
use Rattle.amber_rows.specs.declared.flow.Operator.{Operator}
use Rattle.amber_rows.specs.Lists.{list_at}
use Rattle.amber_meaning.specs.Task.{Arrival, Role, Task}

-- the columns of what the workers of an operator are handed, of a join on its probe side; a scan's are its own
abbrev pub arrival_columns : List Operator → ℕ → What → List Column
arrival_columns flow op kind = columns_at flow (unwrap_or (main_input kind) op)

-- of an input the columns, and the workers; none where there is no such input
abbrev pub input_columns : List Operator → Option ℕ → List Column
input_columns flow None = []
input_columns flow (Some input) = columns_at flow input

abbrev pub input_workers : List Operator → Option ℕ → List ℕ
input_workers flow None = []
input_workers flow (Some input) = workers_of flow input

-- the same of a build side
abbrev pub built_columns : List Operator → What → List Column
built_columns flow kind = input_columns flow (build_input kind)

abbrev pub builders_in : List Operator → What → List ℕ
builders_in flow kind = input_workers flow (build_input kind)

-- the task of an operator's workers
unfoldable pub task_of : List Operator → ℕ → Task
task_of flow op = record {
  kind = what_at flow op;
  columns = arrival_columns flow op (what_at flow op);
  build_columns = built_columns flow (what_at flow op);
  builders = builders_in flow (what_at flow op);
}

-- a record of a scan's file and its number, as they are handed to a worker
abbrev pub numbered_record : ℕ → Result (List Value) RowFault → Arrival
numbered_record number what = record { from = number; what = what }

abbrev pub record_number : Arrival → ℕ
record_number one = one.from

-- the role of a worker; of a scan's workers each has the records whose turn is its own
unfoldable pub role_of : List Operator → List (List (Result (List Value) RowFault)) → ℕ → Role
role_of flow records worker =
    let op = op_of flow worker in
    record {
      task = task_of flow op;
      senders = senders_of flow worker;
      share = share_of record_number (worker_count flow op) (worker - first_worker_of flow op)
          (with_numbers numbered_record 1 (list_at records op));
    }
