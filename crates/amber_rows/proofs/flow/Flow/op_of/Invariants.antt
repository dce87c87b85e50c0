-- The worker is one of the operators from the next one on.
use Rattle.std.proofs.Common.{◌≡◌, ◌+◌, drop}
use Rattle.amber_rows.specs.Topology.{op_of}
use Rattle.amber_rows.proofs.flow.Flow.op_of.Given as goal

abbrev pub invariant-loop-i : goal.invariant-loop-i
invariant-loop-i l = op_of (drop l.i l.operators) l.left + l.i ≡ op_of l.operators l.worker
