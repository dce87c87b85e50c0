-- One worker more watches for nothing.
use Rattle.std.proofs.Common.{None}
use Rattle.amber_dataflow.proofs.Changed.{write-left}
use Rattle.amber_dataflow.specs.Dataflow.{worker_watching}
use Rattle.amber_dataflow.proofs.setting.unwatch_workers.Goals as goal

pub loop-worker-preserved : goal.loop-worker-preserved
loop-worker-preserved c =
    write-left (worker_watching c.args.op None) c.args.crew.now c.loop-worker.crew c.loop-worker.worker-index c.worker-item.result c.watch_worker.new.worker
    c.loop-worker-test.true c.loop-worker.invariant c.watch_worker.ensures
