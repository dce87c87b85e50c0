-- The rows that are still to be taken.
use Rattle.std.proofs.Common.{◌≡◌, ◌≤◌, ◌+◌, ◌++◌, length, drop}
use Rattle.std.specs.VecDeque.{deque_capacity, deque_len}
use Rattle.amber_operators.specs.ManyRows.{passed_by}
use Rattle.amber_operators.proofs.redone_rows.take_all.Given as goal

abbrev pub invariant-loop-fate : goal.invariant-loop-fate
invariant-loop-fate l = (length l.left.items ≤ length l.rows.items) × (deque_len l.pending + length l.left.items ≤ deque_capacity l.pending)
    × (drop (length l.left.items) l.rows.items ≡ drop (length l.fn.fates.items) l.fn.rows.items)
    × (l.pending.items ++ passed_by l.left.items l.rows.items ≡ l.fn.pending.items ++ passed_by l.fn.fates.items l.fn.rows.items)

abbrev pub decreases-loop-fate : goal.decreases-loop-fate
decreases-loop-fate l = length l.left.items
