-- The first workers watch for nothing, the others are as they were.
use Rattle.std.proofs.Common.{◌≡◌, ◌++◌, drop, map, take, None}
use Rattle.amber_dataflow.specs.Dataflow.{worker_watching}
use Rattle.amber_dataflow.proofs.setting.unwatch_workers.Given as goal

abbrev pub invariant-loop-worker : goal.invariant-loop-worker
invariant-loop-worker l = l.crew ≡ map (worker_watching l.op None) (take l.worker-index l.initial.crew) ++ drop l.worker-index l.initial.crew
