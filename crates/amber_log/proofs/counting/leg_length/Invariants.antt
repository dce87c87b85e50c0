-- The lines of the parts so far, and that of the close.
use Rattle.std.proofs.Common.{◌≡◌, ◌+◌, length, take}
use Rattle.std.specs.List.{flat_map}
use Rattle.amber_log.specs.LogText.{part_lines}
use Rattle.amber_log.proofs.counting.leg_length.Given as goal

abbrev pub invariant-loop-part : goal.invariant-loop-part
invariant-loop-part l = l.lines ≡ length (flat_map part_lines (take l.part-index l.fn.leg.parts)) + 1
