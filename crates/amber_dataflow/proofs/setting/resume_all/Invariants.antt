-- The first workers go on, the others are as they were.
use Rattle.std.proofs.Common.{◌≡◌, ℕ, ◌++◌, drop, map, take}
use Rattle.amber_dataflow.specs.AtWork.{KeepsPosition, worker_state_at}
use Rattle.amber_dataflow.specs.Dataflow.{worker_resumed}
use Rattle.amber_dataflow.proofs.setting.resume_all.Given as goal

abbrev pub invariant-workers : goal.invariant-workers
invariant-workers l = record {
  crew : l.crew ≡ map worker_resumed (take l.number l.initial.crew) ++ drop l.number l.initial.crew;
  keeps : (worker : ℕ) → KeepsPosition (worker_state_at l.initial.crew worker) (worker_state_at l.crew worker);
}
