-- The lines of the items so far, which are few.
use Rattle.std.proofs.Common.{◌≡◌, ◌<◌, ◌^◌, length, take}
use Rattle.std.specs.List.{flat_map}
use Rattle.amber_log.specs.LogText.{item_lines}
use Rattle.amber_recover.proofs.counting.have_few_lines.Given as goal

abbrev pub invariant-loop-item : goal.invariant-loop-item
invariant-loop-item l = record {
  is : l.lines ≡ length (flat_map item_lines (take l.item-index l.items));
  few : l.lines < 2 ^ 32;
}
