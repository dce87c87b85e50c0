-- The rows that are left.
use Rattle.std.proofs.Common.{◌≡◌, drop}
use Rattle.amber_operators.proofs.redone_rows.drop_all.Given as goal

abbrev pub invariant-loop : goal.invariant-loop
invariant-loop l = l.rows.items ≡ drop l.counter l.fn.rows.items
