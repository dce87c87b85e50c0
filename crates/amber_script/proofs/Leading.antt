-- One line more.
use Rattle.std.proofs.Common.{◌≡◌, ◌+◌, ℕ, List, [], ◌∷◌, ◌++◌, Result, Ok, Err, refl, ap, sym, append_assoc, append-nil}
use Rattle.amber_rows.specs.declared.flow.Operator.{Operator}
use Rattle.amber_log.specs.declared.command.Command.{Command}
use Rattle.amber_script.specs.Answers.{after}
use Rattle.amber_script.specs.Script.{BadLine, before, commands_from, said_by}
use Rattle.amber_script.specs.declared.error.ScriptWhy.{ScriptWhy}
use Rattle.amber_script.specs.declared.script_line.ScriptLine.TheVariants as script_line

-- a command after those before it
after_command : (commands : List Command) (number : ℕ) (one : Command) (more : Result (List Command) BadLine)
    → after commands (before number (script_line.Command one) more) ≡ after (commands ++ one ∷ []) more
after_command commands number one (Ok more) = ap Ok (sym (append_assoc commands (one ∷ []) more))
after_command commands number one (Err bad) = refl

pub reads_command : (commands : List Command) (number : ℕ) (flow : List Operator) (line : List ℕ) (more : List (List ℕ)) (one : Command)
    → script_line.Command one ≡ said_by flow line
    → after commands (commands_from number flow (line ∷ more)) ≡ after (commands ++ one ∷ []) (commands_from (number + 1) flow more)
unfolding commands_from
reads_command commands number flow line more one is =
    rw (sym is) (after_command commands number one (commands_from (number + 1) flow more))

pub reads_none : (commands : List Command) (number : ℕ) (flow : List Operator) (line : List ℕ) (more : List (List ℕ)) (reason : ScriptWhy)
    → script_line.Bad reason ≡ said_by flow line
    → after commands (commands_from number flow (line ∷ more)) ≡ Err (record { line = number; why = reason })
unfolding commands_from
reads_none commands number flow line more reason is = rw (sym is) refl

pub skips : (commands : List Command) (number : ℕ) (flow : List Operator) (line : List ℕ) (more : List (List ℕ))
    → script_line.Skipped ≡ said_by flow line → after commands (commands_from number flow (line ∷ more)) ≡ after commands (commands_from (number + 1) flow more)
unfolding commands_from
skips commands number flow line more is = rw (sym is) refl

-- nothing read yet
pub after_none : (meant : Result (List Command) BadLine) → after [] meant ≡ meant
after_none (Ok commands) = refl
after_none (Err bad) = refl

-- no line is left
pub after_end : (commands : List Command) (number : ℕ) (flow : List Operator) → after commands (commands_from number flow []) ≡ Ok commands
unfolding commands_from
after_end commands number flow = ap Ok (append-nil commands)
