-- The parts so far are written.
use Rattle.std.proofs.Common.{◌≡◌, ◌++◌, take}
use Rattle.std.specs.List.{flat_map}
use Rattle.amber_journal.specs.Written.{part_text}
use Rattle.amber_journal.proofs.legs.push_leg.Given as goal

abbrev pub invariant-loop-part : goal.invariant-loop-part
invariant-loop-part l = l.out.items ≡ l.fn.out.items ++ flat_map part_text (take l.part-index l.parts)
