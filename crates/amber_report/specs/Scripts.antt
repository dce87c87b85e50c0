-- Commands as lines of a script.
use Rattle.std.specs.Prelude.{ℕ, List, [], ◌∷◌, ◌++◌}
use Rattle.std.specs.List.{flat_map}
use Rattle.amber_rows.specs.declared.flow.Operator.{Operator}
use Rattle.amber_log.specs.declared.command.Command.{Command}
use Rattle.amber_meaning.specs.Texts.{after_blank, reply_words, words_line}

-- words with a blank between each two
abbrev pub joined : List (List ℕ) → List ℕ
joined [] = []
joined (word ∷ more) = word ++ flat_map after_blank more

-- a command as a line of a script, by the names of a workflow
unfoldable pub script_line : List Operator → Command → List ℕ
script_line flow command = words_line (reply_words flow command)
