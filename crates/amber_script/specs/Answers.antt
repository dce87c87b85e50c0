-- What the reader answers.
use Rattle.std.specs.Prelude.{◌≡◌, ◌++◌, ℕ, List, [], Bool, true, false, Result, Ok, Err, ⊤}
use Rattle.amber_log.specs.declared.command.Command.{Command}
use Rattle.amber_script.specs.Script.{BadLine, script_lines}
use Rattle.amber_script.specs.declared.error.ReadErr.{ReadErr}
use Rattle.amber_script.specs.declared.error.ReadErr.TheVariants as read_err
use Rattle.amber_script.specs.declared.error.ScriptErr.{ScriptErr}
use Rattle.amber_script.specs.declared.error.ScriptErr.TheVariants.{Bad, NoMemory}
use Rattle.amber_script.specs.declared.error.ScriptWhy.{ScriptWhy}
use Rattle.amber_script.specs.declared.script_line.ScriptLine.{ScriptLine}
use Rattle.amber_script.specs.declared.script_line.ScriptLine.TheVariants as script_line

-- the commands that were meant; the first bad line and its first reason; or nothing, where memory ran out
abbrev pub AnswersScript : Result (List Command) ScriptErr → Result (List Command) BadLine → Type 0
AnswersScript (Ok commands) meant = meant ≡ Ok commands
AnswersScript (Err (Bad line why)) meant = meant ≡ Err (record { line = line; why = why })
AnswersScript (Err NoMemory) meant = ⊤

-- ---- word by word

-- what the words mean; the first reason why they mean nothing; or nothing, where memory ran out
abbrev pub AnswersWords : {A : Type 0} → Result A ReadErr → Result A ScriptWhy → Type 0
AnswersWords (Ok read) meant = meant ≡ Ok read
AnswersWords (Err (read_err.Bad why)) meant = meant ≡ Err why
AnswersWords (Err read_err.NoMemory) meant = ⊤

-- ---- line by line

-- a fact about the command of a line, where it has one
abbrev pub ForCommand : ScriptLine → (Command → Type 0) → Type 0
ForCommand script_line.Skipped P = ⊤
ForCommand (script_line.Command command) P = P command
ForCommand (script_line.Bad reason) P = ⊤

-- commands that were read, before those of further lines
abbrev pub after : List Command → Result (List Command) BadLine → Result (List Command) BadLine
after commands (Ok more) = Ok (commands ++ more)
after commands (Err bad) = Err bad

-- reading one line either leads from what a script means with it to what it means after it, or refuses the script
abbrev pub LeadsBehind : Result (Unit {0}) ScriptErr → Result (List Command) BadLine → Result (List Command) BadLine → Type 0
LeadsBehind (Ok _) meant behind = meant ≡ behind
LeadsBehind (Err (Bad line why)) meant behind = meant ≡ Err (record { line = line; why = why })
LeadsBehind (Err NoMemory) meant behind = ⊤

-- the lines that are left, where any are
abbrev pub lines_left : Bool → List ℕ → List (List ℕ)
lines_left true rest = script_lines rest
lines_left false rest = []
