-- Only empty lines were passed over.
use Rattle.std.proofs.Common.{◌≡◌, length}
use Rattle.amber_cut.specs.Lines.{lines}
use Rattle.amber_cut.proofs.line_reader.next_line.Given as goal

abbrev pub invariant-lines : goal.invariant-lines
invariant-lines l = lines l.bytes ≡ lines l.rest

abbrev pub decreases-lines : goal.decreases-lines
decreases-lines l = length l.rest
