-- What is left to move back leads to the same state and list.
use Rattle.std.proofs.Common.{◌≡◌, ◌≤◌, ◌+◌, length}
use Rattle.std.specs.VecDeque.{deque_capacity, deque_len}
use Rattle.amber_join.specs.Moving.{CanMoveAllBack, all_moved_back}
use Rattle.amber_join.proofs.several.unstage_all.Given as goal

abbrev pub invariant-loop-moved : goal.invariant-loop-moved
invariant-loop-moved l = record {
  back : all_moved_back l.all.items (record { state = l.state; rows = l.rows.items }) ≡ all_moved_back l.initial.all.items (record { state = l.initial.state; rows = l.initial.rows.items });
  can : CanMoveAllBack l.all.items (record { state = l.state; rows = l.rows.items });
  room : deque_len l.rows + length l.all.items ≤ deque_capacity l.rows;
}

abbrev pub decreases-loop-moved : goal.decreases-loop-moved
decreases-loop-moved l = goal.left-loop-moved l
