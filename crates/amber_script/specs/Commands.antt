-- The command that words mean, or the first reason why they mean none.
use Rattle.std.specs.Prelude.{ℕ, ◌+◌, ◌^◌, List, [], ◌∷◌, codes, bytes_eq, not, position, Option, Some, None, option_map, option_and_then, ok_or, Result, Ok, Err, Bool, true, if◌then◌else◌}
use Rattle.std.specs.List.{list_all}
use Rattle.std.specs.Str.{is_utf8}
use Rattle.amber_rows.specs.declared.cond.Cmp.{Cmp}
use Rattle.amber_rows.specs.declared.cond.Cond.{Cond}
use Rattle.amber_rows.specs.Kinds.{settable_cond}
use Rattle.amber_rows.specs.Lists.{nth}
use Rattle.amber_rows.specs.Columns.{column_kind_at, schema_of}
use Rattle.amber_rows.specs.Number.{read_int_of}
use Rattle.amber_rows.specs.declared.value.Value.{Value}
use Rattle.amber_rows.specs.declared.value.Value.TheVariants as value
use Rattle.amber_rows.specs.declared.column.ColKind.{ColKind}
use Rattle.amber_rows.specs.declared.column.ColKind.TheVariants as kind
use Rattle.amber_rows.specs.declared.column.Column.{Column}
use Rattle.amber_rows.specs.declared.flow.What.{What}
use Rattle.amber_rows.specs.declared.flow.Operator.{Operator}
use Rattle.amber_log.specs.Commands.{action_of}
use Rattle.amber_log.specs.Fits.{has_worker, is_source}
use Rattle.amber_log.specs.Operands.{comparison_of}
use Rattle.amber_log.specs.declared.effect.Action.{Action}
use Rattle.amber_log.specs.declared.effect.Action.TheVariants.{AtRest, Leg}
use Rattle.amber_log.specs.declared.command.Command.{Command}
use Rattle.amber_log.specs.declared.command.Command.TheVariants as command
use Rattle.amber_rows.specs.Chain.{◌>>=◌, require}
use Rattle.amber_script.specs.Numbers.{number_up_to, whole_number}
use Rattle.amber_script.specs.declared.error.ScriptWhy.{ScriptWhy}
use Rattle.amber_script.specs.declared.error.ScriptWhy.TheVariants as why

-- ---- the parts of a command

-- the number of the operator with this id, from 1
abbrev pub operator_named : List Operator → List ℕ → Result ℕ ScriptWhy
operator_named flow id = ok_or (option_map (λ place. place + 1) (position (λ operator. bytes_eq operator.id id) flow)) why.Operator

-- the number of an operator with this id that emits rows
abbrev pub source_named : List Operator → List ℕ → Result ℕ ScriptWhy
source_named flow id = do
  op ← operator_named flow id
  emits ← require (is_source (nth flow op)) why.Kind
  Ok op

-- the number of a worker of this operator, within it
abbrev pub worker_named : Option Operator → List ℕ → Result ℕ ScriptWhy
worker_named operator word = do
  worker ← ok_or (whole_number word) why.Number
  there ← require (has_worker operator worker) why.Worker
  Ok worker

-- the most rows that a command may ask for
abbrev pub row_limit : ℕ
row_limit = 2 ^ 40

-- the kind of the column on which a condition stands
abbrev pub cond_kind : Option Cond → List Column → Option ColKind
cond_kind None columns = None
cond_kind (Some cond) columns = column_kind_at columns cond.column

-- the kind of the column on whose condition a constant can be set
abbrev pub filtered_kind : What → List Column → Option ColKind
filtered_kind kind columns = cond_kind (settable_cond kind) columns

abbrev pub settable_kind : Option Operator → Option ColKind
settable_kind None = None
settable_kind (Some operator) = filtered_kind operator.what operator.schema

-- a constant for a column of this kind: a whole number as in a scan's fields, or the word itself
abbrev pub script_constant : ColKind → List ℕ → Result Value ScriptWhy
script_constant kind.Int word = ok_or (option_map (λ n. value.Int n) (read_int_of word)) why.Mismatch
script_constant kind.Text word = Ok (value.Text word)

-- the number of the column with this name, from 1
abbrev pub number_of_column : List Column → List ℕ → Result ℕ ScriptWhy
number_of_column columns name = ok_or (option_map (λ place. place + 1) (position (λ column. bytes_eq column.name name) columns)) why.Column

-- the condition on the column of this name, where it is compared so with the constant that a word is
abbrev pub condition_on : List Column → List ℕ → Cmp → List ℕ → Result Cond ScriptWhy
condition_on columns name comparison word = do
  column ← number_of_column columns name
  kind ← ok_or (column_kind_at columns column) why.Column
  constant ← script_constant kind word
  Ok (record { column = column; op = comparison; constant = constant })

-- ---- what follows a command's word

-- no word
abbrev pub nothing_behind : List (List ℕ) → Result (Unit {0}) ScriptWhy
nothing_behind [] = Ok tt
nothing_behind (word ∷ more) = Err why.Word

-- an operator alone
abbrev pub operator_behind : List Operator → List (List ℕ) → Result ℕ ScriptWhy
operator_behind flow [] = Err why.Word
operator_behind flow (id ∷ []) = operator_named flow id
operator_behind flow (id ∷ word ∷ more) = Err why.Word

-- an operator that emits rows, and a number of rows
abbrev pub operator_and_rows : List Operator → List ℕ → List ℕ → Result (ℕ × ℕ) ScriptWhy
operator_and_rows flow id word = do
  op ← source_named flow id
  n ← ok_or (number_up_to row_limit word) why.Number
  Ok (op, n)

-- a filter, and another constant for it
abbrev pub operator_and_constant : List Operator → List ℕ → List ℕ → Result (ℕ × Value) ScriptWhy
operator_and_constant flow id word = do
  op ← operator_named flow id
  column ← ok_or (settable_kind (nth flow op)) why.Kind
  constant ← script_constant column word
  Ok (op, constant)

-- an operator, and one of its workers
abbrev pub operator_and_worker : List Operator → List ℕ → List ℕ → Result (ℕ × ℕ) ScriptWhy
operator_and_worker flow id word = do
  op ← operator_named flow id
  worker ← worker_named (nth flow op) word
  Ok (op, worker)

-- an operator that emits rows, and a condition on one of its columns: the column's name, a sign and a constant
abbrev pub operator_and_condition : List Operator → List (List ℕ) → Result (ℕ × Cond) ScriptWhy
operator_and_condition flow [] = Err why.Word
operator_and_condition flow (id ∷ []) = Err why.Word
operator_and_condition flow (id ∷ name ∷ []) = Err why.Word
operator_and_condition flow (id ∷ name ∷ sign ∷ []) = Err why.Word
operator_and_condition flow (id ∷ name ∷ sign ∷ word ∷ []) = do
  comparison ← ok_or (comparison_of sign) why.Word
  op ← source_named flow id
  cond ← condition_on (schema_of (nth flow op)) name comparison word
  Ok (op, cond)
operator_and_condition flow (id ∷ name ∷ sign ∷ word ∷ next ∷ more) = Err why.Word

-- what an id and one word more mean
abbrev pub of_two : {A : Type 0} → (List ℕ → List ℕ → Result A ScriptWhy) → List (List ℕ) → Result A ScriptWhy
of_two read [] = Err why.Word
of_two read (id ∷ []) = Err why.Word
of_two read (id ∷ word ∷ []) = read id word
of_two read (id ∷ word ∷ next ∷ more) = Err why.Word

-- ---- commands

-- the command of `break`, this word and those after it: a line for each
unfoldable pub break_by : List Operator → List ℕ → List (List ℕ) → Result Command ScriptWhy
break_by flow stop words =
    if bytes_eq stop (codes "count") then of_two (operator_and_rows flow) words >>= (λ said. Ok (command.Count said.0 said.1))
    else if bytes_eq stop (codes "when") then operator_and_condition flow words >>= (λ said. Ok (command.When said.0 said.1))
    else Err why.Word

-- the command of `break` and these words
abbrev pub break_said : List Operator → List (List ℕ) → Result Command ScriptWhy
break_said flow [] = Err why.Word
break_said flow (stop ∷ words) = break_by flow stop words

-- the command of this word and those after it: a line for each
unfoldable pub command_by : List Operator → List ℕ → List (List ℕ) → Result Command ScriptWhy
command_by flow name words =
    if bytes_eq name (codes "run") then nothing_behind words >>= (λ none. Ok command.Run)
    else if bytes_eq name (codes "pause") then of_two (operator_and_rows flow) words >>= (λ said. Ok (command.Pause said.0 said.1))
    else if bytes_eq name (codes "break") then break_said flow words
    else if bytes_eq name (codes "clear") then operator_behind flow words >>= (λ op. Ok (command.Clear op))
    else if bytes_eq name (codes "set") then of_two (operator_and_constant flow) words >>= (λ said. Ok (command.Set said.0 said.1))
    else if bytes_eq name (codes "drop") then of_two (operator_and_worker flow) words >>= (λ said. Ok (command.Drop said.0 said.1))
    else if bytes_eq name (codes "inspect") then operator_behind flow words >>= (λ op. Ok (command.Inspect op))
    else if bytes_eq name (codes "lose") then of_two (operator_and_worker flow) words >>= (λ said. Ok (command.Lose said.0 said.1))
    else Err why.Word

-- the command of these words
abbrev pub command_said : List Operator → List (List ℕ) → Result Command ScriptWhy
command_said flow [] = Err why.Word
command_said flow (name ∷ words) = command_by flow name words

-- a leg goes on until something stops it
abbrev pub may_stand : Action → Bool
may_stand (Leg to_end) = not to_end
may_stand (AtRest effect) = true

-- a command that a script may have
abbrev pub is_scripted : Command → Bool
is_scripted command = may_stand (action_of command)

-- the words, where each of them is UTF-8
abbrev pub texts_of : List (List ℕ) → Option (List (List ℕ))
texts_of words = if list_all is_utf8 words then Some words else None

-- the command of a line's words, which are UTF-8. There are none where a quote or a backslash stands wrong
unfoldable pub read_command : List Operator → Option (List (List ℕ)) → Result Command ScriptWhy
read_command flow words = ok_or (option_and_then texts_of words) why.Word >>= command_said flow
