-- What is whole up to here, and what of the lines after is kept.
use Rattle.std.proofs.Common.{◌≡◌, ◌≤◌, ◌-◌, length}
use Rattle.amber_log.specs.ReadAs.{cut_back, lines_of, whole_items}
use Rattle.amber_journal.proofs.Kept.{later}
use Rattle.amber_journal.proofs.whole_prefix.whole_items.Given as goal

abbrev pub invariant-loop-line : goal.invariant-loop-line
invariant-loop-line l =
    (length l.rest ≤ length l.fn.bytes) × (length (whole_items l.fn.bytes) ≡ later l.whole (length l.fn.bytes - length l.rest) (cut_back (lines_of l.rest)))

abbrev pub decreases-loop-line : goal.decreases-loop-line
decreases-loop-line l = length l.rest
