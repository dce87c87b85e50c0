-- So many rows come of the records so far.
use Rattle.std.proofs.Common.{◌≡◌, ◌≤◌, ◌-◌, length, take}
use Rattle.amber_operators.specs.ManyRows.{yielded_records}
use Rattle.amber_operators.proofs.redone_records.count_rows.Given as goal

abbrev pub invariant-loop-i : goal.invariant-loop-i
invariant-loop-i l = record {
  made : l.made ≡ length (yielded_records l.columns (take l.i l.share.left));
  small : l.made ≤ l.i;
  before : l.before ≡ length (yielded_records l.columns (take (l.i - 1) l.share.left));
}
