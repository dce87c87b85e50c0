-- What is still to be looked at decides.
use Rattle.std.proofs.Common.{◌≡◌, ◌++◌, List, drop}
use Rattle.amber_rows.specs.declared.value.Value.{Value}
use Rattle.amber_operators.specs.ManyRows.{lets_by, passed_by}
use Rattle.amber_operators.proofs.letting_by.lets_fates_by.Given as goal

abbrev pub invariant-loop-i : goal.invariant-loop-i
invariant-loop-i l = (later : List (List Value)) → lets_by l.fn.when l.gate (passed_by (drop l.i l.fn.fates) (drop l.i l.fn.rows.items) ++ later) ≡ lets_by l.fn.when l.fn.gate (passed_by l.fn.fates l.fn.rows.items ++ later)
