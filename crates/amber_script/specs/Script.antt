-- The script that a text means, or its first bad line.
use Rattle.std.specs.Prelude.{ℕ, ◌+◌, ◌==◌, not, List, [], ◌∷◌, map, Bool, false, Result, Ok, Err, if◌then◌else◌}
use Rattle.std.specs.List.{slice_split}
use Rattle.std.specs.Str.Lines.{strip_carriage_return}
use Rattle.amber_rows.specs.declared.flow.Operator.{Operator}
use Rattle.amber_log.specs.declared.command.Command.{Command}
use Rattle.amber_script.specs.Commands.{read_command}
use Rattle.amber_script.specs.Words.{is_blank, script_words_of}
use Rattle.amber_script.specs.declared.error.ScriptWhy.{ScriptWhy}
use Rattle.amber_script.specs.declared.script_line.ScriptLine.{ScriptLine}
use Rattle.amber_script.specs.declared.script_line.ScriptLine.TheVariants as script_line

-- the lines of a text, which end with a line feed; the last may lack it. One carriage return at a line's end is dropped
abbrev pub script_lines : List ℕ → List (List ℕ)
script_lines bytes = map strip_carriage_return (slice_split (λ byte. byte == 10) bytes)

-- a line has a byte other than a blank, and the first such byte is no `#`. Other lines are skipped
unfoldable pub says : List ℕ → Bool
says [] = false
says (byte ∷ bytes) = if is_blank byte then says bytes else not (byte == 35)

-- a bad line, numbered from 1, and its first reason
pub record BadLine : Type 0 where
  pub line : ℕ
  pub why : ScriptWhy

-- a command, or the first reason why there is none
abbrev pub said : Result Command ScriptWhy → ScriptLine
said (Ok command) = script_line.Command command
said (Err reason) = script_line.Bad reason

-- what a line says to a workflow: nothing, or what its words mean
unfoldable pub said_by : List Operator → List ℕ → ScriptLine
said_by flow line = if says line then said (read_command flow (script_words_of line)) else script_line.Skipped

-- what the line with this number says, before the others
abbrev pub before : ℕ → ScriptLine → Result (List Command) BadLine → Result (List Command) BadLine
before number script_line.Skipped others = others
before number (script_line.Bad reason) others = Err (record { line = number; why = reason })
before number (script_line.Command command) (Err bad) = Err bad
before number (script_line.Command command) (Ok commands) = Ok (command ∷ commands)

-- the commands of these lines, of which the first has this number
unfoldable pub commands_from : ℕ → List Operator → List (List ℕ) → Result (List Command) BadLine
commands_from number flow [] = Ok []
commands_from number flow (line ∷ lines) = before number (said_by flow line) (commands_from (number + 1) flow lines)

-- the script that a text means for a workflow: the commands of its lines, or its first bad line and that line's first reason
unfoldable pub script_of : List ℕ → List Operator → Result (List Command) BadLine
script_of bytes flow = commands_from 1 flow (script_lines bytes)
