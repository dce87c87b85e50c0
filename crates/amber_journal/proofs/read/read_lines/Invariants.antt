-- What is read so far and the lines after it make the log of all lines.
use Rattle.std.proofs.Common.{◌≡◌, ◌≤◌, ◌+◌, length}
use Rattle.amber_log.specs.ReadAs.{lines_of}
use Rattle.amber_log.specs.ReadLines.{read_lines, read_on}
use Rattle.amber_journal.proofs.read.read_lines.Given as goal

abbrev pub invariant-loop-text : goal.invariant-loop-text
invariant-loop-text l =
    (l.line + length l.rest ≤ length l.fn.bytes + 2) × (read_lines (lines_of l.fn.bytes) ≡ read_on l.line l.reading (lines_of l.rest))

abbrev pub decreases-loop-text : goal.decreases-loop-text
decreases-loop-text l = length l.rest
