-- For which command an item was made, and by which line the items of a command begin.
use Rattle.std.specs.Prelude.{Bool, bytes_eq}
use Rattle.amber_log.specs.LogText.{line_text}
use Rattle.amber_log.specs.declared.command.Command.{Command}
use Rattle.amber_log.specs.declared.command.Command.TheVariants as command
use Rattle.amber_log.specs.declared.line.Line.{Line}
use Rattle.amber_log.specs.declared.line.Line.TheVariants as line
use Rattle.amber_log.specs.declared.log.Item.{Item}
use Rattle.amber_log.specs.declared.log.Item.TheVariants as item

-- the command that an item was made for
abbrev pub command_of : Item → Command
command_of (item.Do command) = command
command_of (item.Run leg) = command.Run
command_of (item.End leg) = command.End

-- the first line of an item of this command
abbrev pub opening_of : Command → Line
opening_of command.Run = line.Run
opening_of command.End = line.End
opening_of other = line.Do other

-- whether two commands are the same: the first lines of their items have the same text
abbrev pub is_same_command : Command → Command → Bool
is_same_command first second = bytes_eq (line_text (opening_of first)) (line_text (opening_of second))
