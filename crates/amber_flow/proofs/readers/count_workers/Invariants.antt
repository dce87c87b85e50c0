use Rattle.std.proofs.Common.{◌≡◌, ◌*◌, ◌^◌, ◌≤◌, take}
use Rattle.amber_flow.specs.Workflow.{workers_in_all}
use Rattle.amber_flow.proofs.readers.count_workers.Given as goal

abbrev pub invariant-loop-operator : goal.invariant-loop-operator
invariant-loop-operator l = (l.count ≡ workers_in_all (take l.operator-index l.operators)) × (l.count ≤ l.operator-index * 2 ^ 32)
