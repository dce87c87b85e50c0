-- The lines of the items so far are there.
use Rattle.std.proofs.Common.{◌≡◌, take}
use Rattle.std.specs.List.{flat_map}
use Rattle.amber_report.specs.Scripts.{script_line}
use Rattle.amber_commands.specs.Commands.{commands_in}
use Rattle.amber_commands.proofs.script.commands_text.Given as goal

abbrev pub invariant-loop-item : goal.invariant-loop-item
invariant-loop-item l = l.text.items ≡ flat_map (λ item. flat_map (script_line l.flow) (commands_in item)) (take l.item-index l.items)
