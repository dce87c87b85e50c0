-- The parts so far were done, and the next one begins at this line.
use Rattle.std.proofs.Common.{◌≡◌, ◌+◌, length, take}
use Rattle.std.specs.List.{flat_map}
use Rattle.amber_log.specs.LogText.{part_lines}
use Rattle.amber_recover.specs.Redone.{HasDoneParts}
use Rattle.amber_recover.proofs.parts.redo_parts.Given as goal

abbrev pub invariant-loop-part : goal.invariant-loop-part
invariant-loop-part l = record {
  place : l.next ≡ l.line + length (flat_map part_lines (take l.part-index l.parts));
  done : HasDoneParts (take l.part-index l.parts) l.initial.home l.home;
}
