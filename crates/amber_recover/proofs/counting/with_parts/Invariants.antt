-- The lines of the parts so far, which are few.
use Rattle.std.proofs.Common.{◌≡◌, ◌+◌, ◌<◌, ◌^◌, length, take}
use Rattle.std.specs.List.{flat_map}
use Rattle.amber_log.specs.LogText.{part_lines}
use Rattle.amber_recover.proofs.counting.with_parts.Given as goal

abbrev pub invariant-loop-part : goal.invariant-loop-part
invariant-loop-part l = record {
  is : l.lines ≡ l.before + length (flat_map part_lines (take l.part-index l.parts));
  few : l.lines < 2 ^ 32;
}
