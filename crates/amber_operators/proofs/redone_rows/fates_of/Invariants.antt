-- What becomes of the rows so far.
use Rattle.std.proofs.Common.{◌≤◌}
use Rattle.amber_operators.proofs.RedoneFates.{AreFates}
use Rattle.amber_operators.proofs.redone_rows.fates_of.Given as goal

abbrev pub invariant-loop-i : goal.invariant-loop-i
invariant-loop-i l = AreFates l.fn.operator_state l.fn.columns l.fn.rows.items l.i l.each.items l.before l.made × (l.fn.count ≤ l.each.cap)
