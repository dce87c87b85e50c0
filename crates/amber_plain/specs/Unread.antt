-- Rows that are yet to be read, and the lists of them while the operators of a workflow are evaluated in order.
use Rattle.std.specs.Prelude.{◌≢◌, ℕ, ◌-◌, ◌<◌, ◌≤◌, List, [], length, Option, Some, None, Result, slice_set, unwrap_or}
use Rattle.std.specs.List.{filter_map}
use Rattle.amber_rows.specs.Kinds.{build_input, main_input}
use Rattle.amber_rows.specs.Lists.{list_at, nth}
use Rattle.amber_rows.specs.Record.{ok_of}
use Rattle.amber_rows.specs.declared.value.Value.{Value}
use Rattle.amber_rows.specs.declared.record.RowFault.{RowFault}
use Rattle.amber_rows.specs.declared.flow.What.{What}
use Rattle.amber_plain.specs.Stages.{count_through, rows_through}
use Rattle.amber_plain.specs.declared.stage.Source.{Source}
use Rattle.amber_plain.specs.declared.stage.Source.TheVariants as source
use Rattle.amber_operators.specs.declared.operator_state.OperatorState.{OperatorState}

-- the typed records of each operator's file
abbrev pub Records : Type 0
Records = List (List (Result (List Value) RowFault))

-- a source, and the stages after it
pub record Waiting : Type 0 where
  pub source : Source
  pub stages : List OperatorState

abbrev pub nothing_unread : Waiting
nothing_unread = record { source = source.Rows []; stages = [] }

-- the rows of a source
abbrev pub source_rows : Records → Source → List (List Value)
source_rows records (source.Rows rows) = rows
source_rows records (source.Scan op) = filter_map ok_of (list_at records op)

-- the rows that will come out after the stages
abbrev pub unread_rows : Records → Waiting → List (List Value)
unread_rows records unread = rows_through unread.stages (source_rows records unread.source)

-- how many rows will come out of the source and of each stage
abbrev pub unread_count : Records → Waiting → ℕ
unread_count records unread = count_through unread.stages (source_rows records unread.source)

-- ---- lists of them, numbered from 1

abbrev pub unread_at : List Waiting → ℕ → Waiting
unread_at waiting op = unwrap_or (nth waiting op) nothing_unread

-- there is one with this number
abbrev pub HasOne : {A : Type 0} → List A → ℕ → Type 0
HasOne waiting op = (0 < op) × (op ≤ length waiting)

-- the others, where this one was taken
abbrev pub without : List Waiting → ℕ → List Waiting
without waiting op = slice_set waiting (op - 1) nothing_unread

abbrev pub HasUnreadInput : {A : Type 0} → List A → Option ℕ → Type 0
HasUnreadInput waiting None = Unit {0}
HasUnreadInput waiting (Some input) = HasOne waiting input

-- two inputs are not one
abbrev pub AreApart : Option ℕ → Option ℕ → Type 0
AreApart None other = Unit {0}
AreApart (Some build) None = Unit {0}
AreApart (Some build) (Some probe) = build ≢ probe

-- there is one for each input of an operator, no two of which are one
abbrev pub HasInputs : {A : Type 0} → List A → What → Type 0
HasInputs waiting kind = HasUnreadInput waiting (build_input kind) × HasUnreadInput waiting (main_input kind) × AreApart (build_input kind) (main_input kind)
