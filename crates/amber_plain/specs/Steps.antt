-- What the evaluation of an operator makes of what is unread: rows are read where a list or a group of them is asked for, and
-- wait else.
use Rattle.std.specs.Prelude.{ℕ, ◌-◌, true, List, [], ◌∷◌, ◌++◌, Option, Some, None, slice_set}
use Rattle.amber_rows.specs.Kinds.{build_input, main_input}
use Rattle.amber_rows.specs.Lists.{list_at}
use Rattle.amber_rows.specs.Operators.{group_result, refused_keys}
use Rattle.amber_rows.specs.Order.{sort_rows}
use Rattle.amber_rows.specs.declared.flow.What.{What}
use Rattle.amber_rows.specs.declared.flow.What.TheVariants as what
use Rattle.amber_meaning.specs.Refused.{refused_groups, refused_records}
use Rattle.amber_meaning.specs.declared.answer.Refusal.{Refusal}
use Rattle.amber_plain.specs.Unread.{Records, Waiting, nothing_unread, unread_at, unread_rows, without}
use Rattle.amber_plain.specs.declared.evaluator.Evaluated.{Evaluated}
use Rattle.amber_plain.specs.declared.stage.Source.{Source}
use Rattle.amber_plain.specs.declared.stage.Source.TheVariants as source
use Rattle.amber_operators.specs.declared.operator_state.OperatorState.{OperatorState}
use Rattle.amber_operators.specs.declared.operator_state.OperatorState.TheVariants as operator_state

-- the refusals of each operator, once a source was read
abbrev pub told_by : Records → List (List Refusal) → Source → List (List Refusal)
told_by records told (source.Rows rows) = told
told_by records told (source.Scan op) = slice_set told (op - 1) (refused_records op 1 (list_at records op))

-- one stage more
abbrev pub through : Waiting → OperatorState → Waiting
through unread stage = record { source = unread.source; stages = unread.stages ++ stage ∷ [] }

-- what is read, to its end: the build side of a join, and the input of a group or a sink
abbrev pub read_for : What → List Waiting → Waiting
read_for (what.Scan file) waiting = nothing_unread
read_for (what.Filter input cond) waiting = nothing_unread
read_for (what.Project input from) waiting = nothing_unread
read_for (what.Join build probe build_keys probe_keys) waiting = unread_at waiting build
read_for (what.Group input keys aggs) waiting = unread_at waiting input
read_for (what.Sink input) waiting = unread_at waiting input

-- what is unread for the operator with this number then
abbrev pub unread_of : Records → ℕ → What → List Waiting → Waiting
unread_of records op (what.Scan file) waiting = record { source = source.Scan op; stages = [] }
unread_of records op (what.Filter input cond) waiting = through (unread_at waiting input) (operator_state.Filter cond)
unread_of records op (what.Project input from) waiting = through (unread_at waiting input) (operator_state.Project from)
unread_of records op (what.Join build probe build_keys probe_keys) waiting =
    through (unread_at waiting probe)
    (operator_state.Join (record { build_keys = build_keys; probe_keys = probe_keys; rows = unread_rows records (unread_at waiting build); sealed = true }))
unread_of records op (what.Group input keys aggs) waiting =
    record { source = source.Rows (group_result keys aggs (unread_rows records (unread_at waiting input))); stages = [] }
unread_of records op (what.Sink input) waiting = record { source = source.Rows (sort_rows (unread_rows records (unread_at waiting input))); stages = [] }

-- what it refuses at once
abbrev pub refused_now : Records → ℕ → What → List Waiting → List Refusal
refused_now records op (what.Scan file) waiting = []
refused_now records op (what.Filter input cond) waiting = []
refused_now records op (what.Project input from) waiting = []
refused_now records op (what.Join build probe build_keys probe_keys) waiting = []
refused_now records op (what.Group input keys aggs) waiting = refused_groups op (refused_keys keys aggs (unread_rows records (unread_at waiting input)))
refused_now records op (what.Sink input) waiting = []

-- both
abbrev pub evaluated_of : Records → ℕ → What → List Waiting → Evaluated
evaluated_of records op kind waiting = record { unread = unread_of records op kind waiting; refused = refused_now records op kind waiting }

abbrev pub without_input : List Waiting → Option ℕ → List Waiting
without_input waiting None = waiting
without_input waiting (Some input) = without waiting input

-- what is left for the others
abbrev pub others_of : What → List Waiting → List Waiting
others_of kind waiting = without_input (without_input waiting (build_input kind)) (main_input kind)
