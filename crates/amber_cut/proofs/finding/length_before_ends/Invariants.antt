-- Behind this place stand ends of lines alone.
use Rattle.std.proofs.Common.{length}
use Rattle.amber_cut.specs.Lines.{AreLineEnds}
use Rattle.amber_cut.proofs.finding.length_before_ends.Given as goal

abbrev pub invariant-ends : goal.invariant-ends
invariant-ends l = AreLineEnds l.bytes l.length (length l.bytes)

abbrev pub decreases-ends : goal.decreases-ends
decreases-ends l = l.length
