-- The items so far were made for the commands so far, and the next one begins at this line.
use Rattle.std.proofs.Common.{◌≡◌, ◌+◌, ◌++◌, drop, length, take}
use Rattle.std.specs.List.{flat_map}
use Rattle.amber_log.specs.LogText.{item_lines}
use Rattle.amber_course.specs.Course.{end_alone, strange_from}
use Rattle.amber_course.proofs.strange.strange_line.Given as goal

abbrev pub invariant-loop-place : goal.invariant-loop-place
invariant-loop-place l = record {
  place : l.line ≡ 2 + length (flat_map item_lines (take l.place l.items));
  left : strange_from l.line (drop l.place (l.commands ++ end_alone)) (drop l.place l.items) ≡ strange_from 2 (l.commands ++ end_alone) l.items;
}
