-- The records so far are taken.
use Rattle.std.proofs.Common.{◌≡◌, ◌≤◌, ◌+◌, ◌++◌, drop, take, vec_capacity, vec_len}
use Rattle.std.specs.VecDeque.{deque_capacity, deque_len}
use Rattle.amber_operators.specs.ManyRows.{scan_refused, yielded_records}
use Rattle.amber_operators.proofs.redone_records.take_records.Given as goal

abbrev pub invariant-loop : goal.invariant-loop
invariant-loop l = record {
  left : l.share.left ≡ drop l.counter l.fn.share.left;
  ready : l.share.ready + l.counter ≡ l.fn.share.ready;
  columns : l.share.columns ≡ l.fn.share.columns;
  pending : l.pending.items ≡ l.fn.pending.items ++ yielded_records l.fn.share.columns (take l.counter l.fn.share.left);
  refused : l.refused.items ≡ l.fn.refused.items ++ scan_refused l.op (take l.counter l.fn.share.left);
  longer : deque_len l.pending ≤ deque_len l.fn.pending + l.counter;
  slots : deque_capacity l.pending ≡ deque_capacity l.fn.pending;
  longer_refused : vec_len l.refused ≤ vec_len l.fn.refused + l.counter;
  slots_refused : vec_capacity l.refused ≡ vec_capacity l.fn.refused;
}
