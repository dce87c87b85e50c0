-- The law of the script of a log.
use Rattle.std.specs.Prelude.{◌≡◌, ℕ, List, Some, None, Ok, true}
use Rattle.std.specs.Str.{is_utf8}
use Rattle.amber_rows.specs.FlowRules.{IsFlow}
use Rattle.amber_rows.specs.Lists.{nth}
use Rattle.amber_rows.specs.declared.column.Column.{Column}
use Rattle.amber_rows.specs.declared.flow.Operator.{Operator}
use Rattle.amber_log.specs.Grammar.{IsLog}
use Rattle.amber_log.specs.declared.log.Log.{Log}
use Rattle.amber_script.specs.Script.{script_of}
use Rattle.amber_commands.specs.Commands.{commands_of, commands_text, unfit_line}

-- the names of the columns of a workflow are texts, as the type of a name has it
abbrev pub HasTextNames : List Operator → Type 0
HasTextNames flow =
    (op number : ℕ) (operator : Operator) (column : Column) → nth flow op ≡ Some operator → nth operator.schema number ≡ Some column
    → is_utf8 column.name ≡ true

-- where a script for the workflow may have all commands of a log, the script of its items is read as these commands
abbrev pub ScriptsReadBack : Type 0
ScriptsReadBack =
    (flow : List Operator) (log : Log) → IsFlow flow → HasTextNames flow → IsLog log → unfit_line 2 flow log.items ≡ None
    → script_of (commands_text flow log.items) flow ≡ Ok (commands_of log.items)
