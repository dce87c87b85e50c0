-- No more batches were made than rows were pushed.
use Rattle.std.proofs.Common.{◌≡◌, ◌≤◌, false}
use Rattle.amber_worker_tests.proofs.driven.deliver_times.Given as goal

abbrev pub invariant-loop-number : goal.invariant-loop-number
invariant-loop-number l = record {
  made : l.out.kept.made ≤ l.number;
  unended : l.out.kept.ended ≡ false;
}
