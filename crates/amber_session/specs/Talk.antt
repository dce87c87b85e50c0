-- What is said to the lines of a session: nothing to a line that is skipped, its number and its reason to one that is refused, and to a
-- command the reply to its item.
use Rattle.std.specs.Prelude.{ℕ, ◌+◌, List, [], ◌∷◌, ◌++◌, codes}
use Rattle.std.specs.Fmt.{decimal}
use Rattle.amber_rows.specs.declared.flow.Operator.{Operator}
use Rattle.amber_log.specs.declared.command.Command.{Command}
use Rattle.amber_log.specs.declared.log.Item.{Item}
use Rattle.amber_meaning.specs.Legal.{Query}
use Rattle.amber_meaning.specs.Replay.{after_item}
use Rattle.amber_meaning.specs.State.{State, start_of}
use Rattle.amber_meaning.specs.Transcript.{reply_of}
use Rattle.amber_script.specs.Reasons.{script_reason_word}
use Rattle.amber_script.specs.Script.{said_by}
use Rattle.amber_script.specs.declared.error.ScriptWhy.{ScriptWhy}
use Rattle.amber_script.specs.declared.script_line.ScriptLine.{ScriptLine}
use Rattle.amber_script.specs.declared.script_line.ScriptLine.TheVariants as script_line

-- the command of a line, if it has one
abbrev pub command_in_line : ScriptLine → List Command
command_in_line script_line.Skipped = []
command_in_line (script_line.Command command) = command ∷ []
command_in_line (script_line.Bad reason) = []

-- the commands of lines, in order; lines that are skipped or refused have none
unfoldable pub accepted : List Operator → List (List ℕ) → List Command
accepted flow [] = []
accepted flow (line ∷ lines) = command_in_line (said_by flow line) ++ accepted flow lines

-- what is said to a line that is refused: its number, and why
unfoldable pub refused_text : ℕ → ScriptWhy → List ℕ
refused_text number why = codes "refused " ++ (decimal number ++ (codes " " ++ (script_reason_word why ++ codes "\n")))

-- what is said to a line of this number and then to the others, where these are the replies to the commands, in order; a command
-- without one is not answered
abbrev pub said_to : ℕ → ScriptLine → List (List ℕ) → (List (List ℕ) → List ℕ) → List ℕ
said_to number script_line.Skipped replies others = others replies
said_to number (script_line.Bad reason) replies others = refused_text number reason ++ others replies
said_to number (script_line.Command command) [] others = others []
said_to number (script_line.Command command) (reply ∷ replies) others = reply ++ others replies

-- what is said to lines, of which the first has this number
unfoldable pub talk_from : List Operator → ℕ → List (List ℕ) → List (List ℕ) → List ℕ
talk_from flow number [] replies = []
talk_from flow number (line ∷ lines) replies = said_to number (said_by flow line) replies (talk_from flow (number + 1) lines)

-- the reply to each of these items, which begin in this state
unfoldable pub replies_to : Query → State → List Item → List (List ℕ)
replies_to query state [] = []
replies_to query state (one ∷ more) = reply_of query state one ∷ replies_to query (after_item query state one) more

-- what is said to all lines, where the log has these items
abbrev pub talk_of : Query → List (List ℕ) → List Item → List ℕ
talk_of query lines items = talk_from query.flow 1 lines (replies_to query (start_of query.flow) items)
