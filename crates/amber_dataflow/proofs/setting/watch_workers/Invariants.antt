-- The first workers watch, the others are as they were, and as many copies are left.
use Rattle.std.proofs.Common.{Some, ◌≡◌, ◌-◌, ◌++◌, drop, length, map, replicate, take}
use Rattle.amber_dataflow.specs.Dataflow.{worker_watching}
use Rattle.amber_dataflow.proofs.setting.watch_workers.Given as goal

abbrev pub invariant-loop-worker : goal.invariant-loop-worker
invariant-loop-worker l = record {
  crew : l.crew ≡ map (worker_watching l.op (Some l.cond)) (take l.worker-index l.initial.crew) ++ drop l.worker-index l.initial.crew;
  copies : l.copies.items ≡ replicate (length l.initial.crew - l.worker-index) l.cond;
}
