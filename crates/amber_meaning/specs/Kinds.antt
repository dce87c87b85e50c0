-- What each kind of operator does. Each stands in a file of its own; here alone they are told apart.
pub mod Filter
pub mod Group
pub mod Join
pub mod Project
pub mod Scan
pub mod Sink
use Rattle.std.specs.Prelude.{ℕ, List, Result}
use Rattle.amber_rows.specs.declared.value.Value.{Value}
use Rattle.amber_rows.specs.declared.record.RowFault.{RowFault}
use Rattle.amber_rows.specs.declared.flow.What.{What}
use Rattle.amber_rows.specs.declared.flow.What.TheVariants as what
use Rattle.amber_meaning.specs.declared.answer.Refusal.{Refusal}
use Rattle.amber_meaning.specs.declared.view.Extra.{Extra}
use Rattle.amber_meaning.specs.Behaviour.{Behaviour}
use Rattle.amber_meaning.specs.Kinds.Filter.{filter_by}
use Rattle.amber_meaning.specs.Kinds.Group.{group}
use Rattle.amber_meaning.specs.Kinds.Join.{join}
use Rattle.amber_meaning.specs.Kinds.Project.{project}
use Rattle.amber_meaning.specs.Kinds.Scan.{scan}
use Rattle.amber_meaning.specs.Kinds.Sink.{sink}
use Rattle.amber_meaning.specs.Task.{Arrival, Task}

abbrev pub behaviour_of : What → Behaviour
behaviour_of (what.Scan file) = scan
behaviour_of (what.Filter input cond) = filter_by input cond
behaviour_of (what.Project input columns) = project input columns
behaviour_of (what.Join build probe build_keys probe_keys) = join build probe build_keys probe_keys
behaviour_of (what.Group input keys aggs) = group input keys aggs
behaviour_of (what.Sink input) = sink input

-- ---- over whole lists

-- the rows of one operator, from its typed records and the rows of the operators before it
abbrev pub rows_of : What → List (Result (List Value) RowFault) → List (List (List Value)) → List (List Value)
rows_of kind records before = (behaviour_of kind).rows records before

-- what an operator refuses
abbrev pub refused_by : ℕ → What → List (Result (List Value) RowFault) → List (List (List Value)) → List Refusal
refused_by op kind records before = (behaviour_of kind).refusals op records before

-- ---- row by row

-- the rows that a row from this worker yields under these constants, where these were handed before it
abbrev pub yields_row : Task → What → List Arrival → ℕ → List Value → List Value → List (List Value)
yields_row task kind before from constants row = (behaviour_of kind).yields task before from constants row

-- the rows that the end yields, of all rows that were handed
abbrev pub closing_rows : What → List (List Value) → List (List Value)
closing_rows kind rows = (behaviour_of kind).closing rows

-- ---- of a worker that took these

-- the rows that it keeps for the answer
abbrev pub kept_rows : What → Task → List Arrival → List (List Value)
kept_rows kind task arrivals = (behaviour_of kind).kept task arrivals

-- the keys of its groups that have no row, once all was taken
abbrev pub keys_refused : What → Task → List Arrival → List (List Value)
keys_refused kind task arrivals = (behaviour_of kind).keys_refused task arrivals

-- what it shows
abbrev pub extra_of : Task → What → List Arrival → Extra
extra_of task kind arrivals = (behaviour_of kind).shows task arrivals

-- the word of its operator's kind
abbrev pub kind_word : What → List ℕ
kind_word kind = (behaviour_of kind).word
