-- The rows so far are kept.
use Rattle.std.proofs.Common.{◌≡◌, ◌≤◌, ◌+◌, ◌++◌, drop, take, vec_capacity, vec_len}
use Rattle.amber_operators.specs.ManyRows.{kept_among}
use Rattle.amber_operators.specs.declared.operator_state.OperatorState.TheVariants as operator_state
use Rattle.amber_operators.proofs.redone_rows.keep_all.Given as goal

abbrev pub invariant-loop : goal.invariant-loop
invariant-loop l = record {
  rows : l.rows.items ≡ drop l.counter l.fn.rows.items;
  kept : l.kept.items ≡ l.fn.kept.items ++ kept_among operator_state.Sink l.columns (take l.counter l.fn.rows.items);
  longer : vec_len l.kept ≤ vec_len l.fn.kept + l.counter;
  slots : vec_capacity l.kept ≡ vec_capacity l.fn.kept;
}
