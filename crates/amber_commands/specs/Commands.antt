-- The script of a log's items, and which items have none.
use Rattle.std.specs.Prelude.{ℕ, ◌+◌, ◌&&◌, List, [], ◌∷◌, length, Bool, Option, None, Some, if◌then◌else◌}
use Rattle.std.specs.List.{flat_map, list_all}
use Rattle.amber_rows.specs.declared.flow.Operator.{Operator}
use Rattle.amber_log.specs.Fits.{fits_of}
use Rattle.amber_log.specs.LogText.{item_lines}
use Rattle.amber_log.specs.declared.command.Command.{Command}
use Rattle.amber_log.specs.declared.command.Command.TheVariants as command
use Rattle.amber_log.specs.declared.log.Item.{Item}
use Rattle.amber_log.specs.declared.log.Item.TheVariants as item
use Rattle.amber_report.specs.Scripts.{script_line}
use Rattle.amber_script.specs.Commands.{is_scripted}

-- the command of an item, as a script gives it: none for a leg to the end, since the end of a script runs to the end
abbrev pub commands_in : Item → List Command
commands_in (item.Do command) = command ∷ []
commands_in (item.Run leg) = command.Run ∷ []
commands_in (item.End leg) = []

-- the commands of a log's items
abbrev pub commands_of : List Item → List Command
commands_of items = flat_map commands_in items

-- the script of a log's items: a line for each command, by the names of a workflow
unfoldable pub commands_text : List Operator → List Item → List ℕ
commands_text flow items = flat_map (script_line flow) (commands_of items)

-- a script for the workflow may have the command
abbrev pub fits_script : List Operator → Command → Bool
fits_script flow command = is_scripted command && fits_of flow command

abbrev pub are_scripted : List Operator → List Command → Bool
are_scripted flow commands = list_all (fits_script flow) commands

-- the line of the first of these items whose command no script for the workflow may have, where the first of them begins at this line
unfoldable pub unfit_line : ℕ → List Operator → List Item → Option ℕ
unfit_line line flow [] = None
unfit_line line flow (item ∷ items) =
    if are_scripted flow (commands_in item) then unfit_line (line + length (item_lines item)) flow items else Some line
