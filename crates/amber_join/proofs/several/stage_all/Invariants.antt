-- Those so far were moved, and can be moved back.
use Rattle.std.proofs.Common.{◌≡◌, ◌≤◌, ◌+◌, ◌++◌, drop, filter, length, take, vec_capacity, vec_len}
use Rattle.std.specs.VecDeque.{deque_capacity, deque_len}
use Rattle.amber_rows.specs.Suits.{suits_of}
use Rattle.amber_join.specs.Moving.{MoveAllBack}
use Rattle.amber_join.proofs.several.stage_all.Given as goal

abbrev pub invariant-loop : goal.invariant-loop
invariant-loop l = record {
  state : l.state ≡ record l.fn.state { rows = l.fn.state.rows ++ filter (suits_of l.columns) (take l.counter l.fn.rows.items) };
  rows : l.rows.items ≡ drop l.counter l.fn.rows.items;
  back : MoveAllBack l.all.items (record { state = l.fn.state; rows = l.fn.rows.items }) (record { state = l.state; rows = l.rows.items });
  long : length l.all.items ≡ l.counter;
  len : vec_len l.all ≡ l.counter;
  slots : l.count ≤ vec_capacity l.all;
  room : deque_len l.rows + l.counter ≤ deque_capacity l.rows;
}
