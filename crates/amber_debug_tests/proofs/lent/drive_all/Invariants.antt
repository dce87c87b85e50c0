-- They are those of the leg, and have made no more steps than may be.
use Rattle.std.proofs.Common.{◌≡◌, ◌+◌, ◌*◌, ◌≤◌, length}
use Rattle.amber_dataflow.specs.AtWork.{steps_by}
use Rattle.amber_home.specs.Lent.{IsLent}
use Rattle.amber_debug_tests.proofs.lent.drive_all.Given as goal

abbrev pub invariant-workers : goal.invariant-workers
invariant-workers l = record {
  lent : IsLent l.home l.crew;
  all : length l.crew.workers.items ≡ length l.initial.crew.workers.items;
  few : steps_by l.crew.workers.items ≤ steps_by l.initial.crew.workers.items + l.number * 40;
}
