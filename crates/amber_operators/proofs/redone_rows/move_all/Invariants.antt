-- The rows that are still pending come behind.
use Rattle.std.proofs.Common.{◌≡◌, ◌+◌, ◌++◌, length}
use Rattle.std.specs.VecDeque.{deque_capacity, deque_len}
use Rattle.amber_operators.proofs.redone_rows.move_all.Given as goal

abbrev pub invariant-loop-row : goal.invariant-loop-row
invariant-loop-row l = (l.rows.items ++ l.pending ≡ l.fn.rows.items ++ l.fn.pending) × (deque_len l.rows + length l.pending ≡ deque_len l.fn.rows + length l.fn.pending)
    × (deque_capacity l.rows ≡ deque_capacity l.fn.rows)

abbrev pub decreases-loop-row : goal.decreases-loop-row
decreases-loop-row l = length l.pending
