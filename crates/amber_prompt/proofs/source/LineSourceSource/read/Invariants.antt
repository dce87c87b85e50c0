-- No read has failed so far.
use Rattle.std.proofs.Common.{◌≡◌}
use Rattle.amber_io.specs.Real.{failed_reads}
use Rattle.amber_prompt.proofs.source.LineSourceSource.read.Given as goal

abbrev pub invariant-loop : goal.invariant-loop
invariant-loop g l = failed_reads l.self.real ≡ failed_reads l.fn.self.real
