-- No more batches were made than rows were pushed.
use Rattle.std.proofs.Common.{◌≡◌, ◌≤◌, false}
use Rattle.amber_worker_tests.proofs.fed.push_rows.Given as goal

abbrev pub invariant-loop-row : goal.invariant-loop-row
invariant-loop-row l = record {
  made : l.out.kept.made ≤ l.row-index;
  unended : l.out.kept.ended ≡ false;
}
