-- The first workers have begun, the others are as they were.
use Rattle.std.proofs.Common.{◌≡◌, ◌++◌, drop, map, take}
use Rattle.amber_dataflow.specs.Dataflow.{worker_begun}
use Rattle.amber_dataflow.proofs.setting.begin_all.Given as goal

abbrev pub invariant-loop-worker : goal.invariant-loop-worker
invariant-loop-worker l = l.crew ≡ map (worker_begun l.to_end) (take l.worker-index l.initial.crew) ++ drop l.worker-index l.initial.crew
