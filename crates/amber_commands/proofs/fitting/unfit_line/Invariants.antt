-- The items so far have lines in a script, and the next one begins at this line.
use Rattle.std.proofs.Common.{◌≡◌, ◌+◌, drop, length, take}
use Rattle.std.specs.List.{flat_map}
use Rattle.amber_log.specs.LogText.{item_lines}
use Rattle.amber_commands.specs.Commands.{unfit_line}
use Rattle.amber_commands.proofs.fitting.unfit_line.Given as goal

abbrev pub invariant-loop-item : goal.invariant-loop-item
invariant-loop-item l = record {
  place : l.line ≡ 2 + length (flat_map item_lines (take l.item-index l.items));
  left : unfit_line l.line l.flow (drop l.item-index l.items) ≡ unfit_line 2 l.flow l.items;
}
