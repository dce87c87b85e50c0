-- The rows that are still to be put come behind.
use Rattle.std.proofs.Common.{◌≡◌, ◌≤◌, ◌+◌, ◌++◌, length}
use Rattle.std.specs.VecDeque.{deque_capacity, deque_len}
use Rattle.amber_operators.proofs.redone_rows.join_rows.Given as goal

abbrev pub invariant-loop-row : goal.invariant-loop-row
invariant-loop-row l = (l.rows.items ++ l.made.items ≡ l.fn.rows.items ++ l.fn.made.items) × (deque_len l.rows + length l.made.items ≤ deque_capacity l.rows)

abbrev pub decreases-loop-row : goal.decreases-loop-row
decreases-loop-row l = length l.made.items
