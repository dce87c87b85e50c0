-- What is still to be looked at decides.
use Rattle.std.proofs.Common.{◌≡◌, ◌++◌, List, drop}
use Rattle.amber_rows.specs.declared.value.Value.{Value}
use Rattle.amber_operators.specs.ManyRows.{lets_by}
use Rattle.amber_operators.proofs.letting_by.lets_pending_by.Given as goal

abbrev pub invariant-loop-i : goal.invariant-loop-i
invariant-loop-i l = (later : List (List Value)) → lets_by l.fn.when l.gate (drop l.i l.fn.pending ++ later) ≡ lets_by l.fn.when l.fn.gate (l.fn.pending ++ later)
