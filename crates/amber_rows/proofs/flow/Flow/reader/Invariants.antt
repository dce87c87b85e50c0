-- The reader is one of the operators from the next one on.
use Rattle.std.proofs.Common.{◌≡◌, ◌+◌, drop}
use Rattle.amber_rows.specs.Topology.{reader_from, reader_of}
use Rattle.amber_rows.proofs.flow.Flow.reader.Given as goal

abbrev pub invariant-loop-i : goal.invariant-loop-i
invariant-loop-i l = reader_of l.operators l.op ≡ reader_from (l.i + 1) (drop l.i l.operators) l.op
