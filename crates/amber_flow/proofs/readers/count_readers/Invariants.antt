use Rattle.std.proofs.Common.{◌≡◌, ◌*◌, ◌≤◌, take}
use Rattle.amber_rows.specs.FlowRules.{reader_count}
use Rattle.amber_flow.proofs.readers.count_readers.Given as goal

abbrev pub invariant-loop-operator : goal.invariant-loop-operator
invariant-loop-operator l = (l.count ≡ reader_count (take l.operator-index l.operators) l.op) × (l.count ≤ 2 * l.operator-index)
