-- What is still to be looked at decides.
use Rattle.std.proofs.Common.{◌≡◌, ◌++◌, List, drop, take}
use Rattle.amber_rows.specs.declared.value.Value.{Value}
use Rattle.amber_operators.specs.ManyRows.{lets_by, yielded_records}
use Rattle.amber_operators.proofs.redone_records.lets_records_by.Given as goal

abbrev pub invariant-loop-i : goal.invariant-loop-i
invariant-loop-i l = (later : List (List Value))
    → lets_by l.fn.when l.gate (yielded_records l.columns (drop l.i (take l.count l.share.left)) ++ later) ≡ lets_by l.fn.when l.fn.gate (yielded_records l.columns (take l.count l.share.left) ++ later)
