-- The matches of the rows so far.
use Rattle.std.proofs.Common.{◌≡◌, ◌-◌, length, take}
use Rattle.amber_operators.specs.ManyRows.{yielded_of}
use Rattle.amber_operators.specs.declared.operator_state.OperatorState.TheVariants as operator_state
use Rattle.amber_operators.proofs.redone_joins.probe_rows.Given as goal

abbrev pub invariant-loop-i : goal.invariant-loop-i
invariant-loop-i l = (l.made.items ≡ yielded_of (operator_state.Join l.state) l.columns (take l.i l.rows.items)) × (l.before ≡ length (yielded_of (operator_state.Join l.state) l.columns (take (l.i - 1) l.rows.items)))
