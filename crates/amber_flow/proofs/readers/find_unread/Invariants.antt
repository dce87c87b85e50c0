use Rattle.std.proofs.Common.{◌≡◌, ℕ, ◌-◌, ◌<◌, length}
use Rattle.amber_rows.specs.FlowRules.{reader_count}
use Rattle.amber_flow.specs.Workflow.{first_unread, unread_from}
use Rattle.amber_flow.proofs.readers.find_unread.Given as goal

abbrev pub invariant-loop-op : goal.invariant-loop-op
invariant-loop-op l =
    (first_unread l.operators ≡ unread_from l.operators l.op (length l.operators - l.op))
    × ((k : ℕ) → 0 < k → k < l.op → reader_count l.operators k ≡ 1)
