-- The first workers have finished.
use Rattle.std.proofs.Common.{◌≡◌, take, true}
use Rattle.std.specs.List.{list_all}
use Rattle.amber_worker.specs.WorkerState.{WorkerState}
use Rattle.amber_dataflow.proofs.counts.have_finished.Given as goal

abbrev pub invariant-loop-worker : goal.invariant-loop-worker
invariant-loop-worker l = list_all (λ (w : WorkerState). w.finished) (take l.worker-index l.crew) ≡ true
