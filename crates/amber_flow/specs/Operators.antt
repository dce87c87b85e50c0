-- The operators of a workflow.
use Rattle.std.specs.Prelude.{◌≡◌, ℕ, ◌+◌, ◌==◌, ◌&&◌, not, nat_lt, nat_le, List, length, map, codes, Option, Some, None, ok_or, option_map, option_and_then, Result, Ok, Bool, if◌then◌else◌, ⊤}
use Rattle.std.specs.List.{filter_map}
use Rattle.serde_json.specs.Data.{Data}
use Rattle.serde_json.specs.Find.{as_i64, as_number, as_str, as_u64, get}
use Rattle.amber_rows.specs.Columns.{names_of, are_apart, is_among, is_id}
use Rattle.amber_rows.specs.Kinds.{is_sink}
use Rattle.amber_rows.specs.Lists.{nth}
use Rattle.amber_rows.specs.declared.value.Value.{Value}
use Rattle.amber_rows.specs.declared.value.Value.TheVariants as value
use Rattle.amber_rows.specs.declared.column.ColKind.{ColKind}
use Rattle.amber_rows.specs.declared.column.ColKind.TheVariants as cells
use Rattle.amber_rows.specs.declared.column.Column.{Column}
use Rattle.amber_rows.specs.declared.cond.Cmp.{Cmp}
use Rattle.amber_rows.specs.declared.cond.Cond.{Cond}
use Rattle.amber_rows.specs.declared.flow.What.TheVariants as what
use Rattle.amber_rows.specs.declared.flow.Operator.{Operator}
use Rattle.amber_rows.specs.Chain.{◌>>=◌, each, require}
use Rattle.amber_flow.specs.Columns.{column_number, columns_of, renaming_of, source_of}
use Rattle.amber_flow.specs.Inputs.{operator_columns, operator_number}
use Rattle.amber_flow.specs.Groups.{group_of}
use Rattle.amber_flow.specs.Joins.{join_of}
use Rattle.amber_flow.specs.Fields.{array_at, text_at}
use Rattle.amber_flow.specs.Names.{is_sink_kind, kind_named, sign_named}
use Rattle.amber_flow.specs.declared.error.FlowWhy.{FlowWhy}
use Rattle.amber_flow.specs.declared.error.FlowWhy.TheVariants as why
use Rattle.amber_flow.specs.declared.names.Kind.{Kind}
use Rattle.amber_flow.specs.declared.names.Kind.TheVariants as kind
use Rattle.amber_flow.specs.declared.head.Head.{Head}
use Rattle.amber_flow.specs.declared.parts.Parts.{Parts}

-- ---- what every operator has

-- a name that no earlier operator has
abbrev pub ids_of : List Operator → List (List ℕ)
ids_of operators = map (λ operator. operator.id) operators

unfoldable pub new_id : List Operator → List ℕ → Result ⊤ FlowWhy
new_id before id = do
  named ← require (is_id id) why.Name
  require (not (is_among id (ids_of before))) why.Duplicate

-- the most workers that an operator other than a sink may have
abbrev pub worker_limit : ℕ
worker_limit = 16

-- the most workers that an operator of a kind may have
abbrev pub most_workers : Kind → ℕ
most_workers kind = if is_sink_kind kind then 1 else worker_limit

-- the number of workers, where an operator has at most a given number: one, where it is not written
abbrev pub workers_from : ℕ → Option Data → Option ℕ
workers_from most None = Some 1
workers_from most (Some tree) = option_and_then (λ n. if nat_le 1 n && nat_le n most then Some n else None) (option_and_then as_u64 (as_number tree))

-- a sink stands last, and nothing else does
abbrev pub is_placed : Kind → Bool → Bool
is_placed kind is_last = if is_last then is_sink_kind kind else not (is_sink_kind kind)

unfoldable pub head_of : Bool → List ℕ → Data → Result Head FlowWhy
head_of is_last word tree = do
  kind ← ok_or (kind_named word) why.Kind
  workers ← ok_or (workers_from (most_workers kind) (get (codes "workers") tree)) why.Workers
  placed ← require (is_placed kind is_last) why.SinkPlace
  Ok (record { kind = kind; workers = workers })

-- ---- what each kind has

abbrev pub is_file_name : List ℕ → Bool
is_file_name file = nat_lt 0 (length file) && nat_le (length file) 255

unfoldable pub scan_of : Data → Result Parts FlowWhy
scan_of tree = do
  file ← ok_or (text_at (codes "file") tree) why.Shape
  pairs ← ok_or (array_at (codes "columns") tree) why.Shape
  columns ← columns_of pairs
  named ← require (is_file_name file) why.Shape
  Ok (record { what = what.Scan file; schema = columns })

-- a value of a column's kind
abbrev pub flow_constant : ColKind → Data → Option Value
flow_constant cells.Int tree = option_map value.Int (option_and_then as_i64 (as_number tree))
flow_constant cells.Text tree = option_map value.Text (as_str tree)

-- a value of the kind of the column with a number
abbrev pub constant_at : List Column → ℕ → Data → Option Value
constant_at columns number tree = option_and_then (λ column. flow_constant column.kind tree) (nth columns number)

unfoldable pub cond_of : List Column → List ℕ → Cmp → Data → Result Cond FlowWhy
cond_of columns name sign tree = do
  number ← ok_or (column_number columns name) why.Column
  constant ← ok_or (constant_at columns number tree) why.Mismatch
  Ok (record { column = number; op = sign; constant = constant })

unfoldable pub filter_of : List Operator → Data → Result Parts FlowWhy
filter_of before tree = do
  id ← ok_or (text_at (codes "input") tree) why.Shape
  name ← ok_or (text_at (codes "column") tree) why.Shape
  sign ← ok_or (option_and_then sign_named (text_at (codes "op") tree)) why.Shape
  constant ← ok_or (get (codes "constant") tree) why.Shape
  input ← ok_or (operator_number before id) why.Forward
  columns ← ok_or (operator_columns before input) why.Forward
  cond ← cond_of columns name sign constant
  Ok (record { what = what.Filter input cond; schema = columns })

unfoldable pub project_of : List Operator → Data → Result Parts FlowWhy
project_of before tree = do
  id ← ok_or (text_at (codes "input") tree) why.Shape
  pairs ← ok_or (array_at (codes "columns") tree) why.Shape
  sources ← ok_or (each source_of pairs) why.Shape
  input ← ok_or (operator_number before id) why.Forward
  columns ← ok_or (operator_columns before input) why.Forward
  from ← ok_or (each (column_number columns) sources) why.Column
  Ok (record { what = what.Project input from; schema = filter_map (renaming_of columns) pairs })

unfoldable pub sink_of : List Operator → Data → Result Parts FlowWhy
sink_of before tree = do
  id ← ok_or (text_at (codes "input") tree) why.Shape
  input ← ok_or (operator_number before id) why.Forward
  columns ← ok_or (operator_columns before input) why.Forward
  Ok (record { what = what.Sink input; schema = columns })

abbrev pub parts_of : Kind → List Operator → Data → Result Parts FlowWhy
parts_of kind.Scan before tree = scan_of tree
parts_of kind.Filter before tree = filter_of before tree
parts_of kind.Project before tree = project_of before tree
parts_of kind.Join before tree = join_of before tree
parts_of kind.Group before tree = group_of before tree
parts_of kind.Sink before tree = sink_of before tree

-- an operator gives 1 to 64 columns, none of a name twice
unfoldable pub check_columns : List Column → Result ⊤ FlowWhy
check_columns columns = do
  wide ← require (nat_lt 0 (length columns) && nat_le (length columns) 64) why.Wide
  require (are_apart (names_of columns)) why.Duplicate

-- ---- an operator

-- of `count` operators the last is a sink, and no other
abbrev pub SinkIsLast : ℕ → List Operator → Operator → Type 0
SinkIsLast count before operator = is_sink operator.what ≡ (length before + 1 == count)

-- the operator that a value means, where it comes after these and there are `count` in all
unfoldable pub operator_of : ℕ → List Operator → Data → Result Operator FlowWhy
operator_of count before tree = do
  id ← ok_or (text_at (codes "id") tree) why.Shape
  word ← ok_or (text_at (codes "kind") tree) why.Shape
  new ← new_id before id
  head ← head_of (length before + 1 == count) word tree
  parts ← parts_of head.kind before tree
  checked ← check_columns parts.schema
  Ok (record { id = id; what = parts.what; schema = parts.schema; workers = head.workers })
