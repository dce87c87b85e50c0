-- One worker more has begun.
use Rattle.amber_dataflow.proofs.Changed.{write-left}
use Rattle.amber_dataflow.specs.Dataflow.{worker_begun}
use Rattle.amber_dataflow.proofs.setting.begin_all.Goals as goal

pub loop-worker-preserved : goal.loop-worker-preserved
loop-worker-preserved c =
    write-left (worker_begun c.args.to_end) c.args.crew.now c.loop-worker.crew c.loop-worker.worker-index c.worker-item.result c.begin_worker.new.worker
    c.loop-worker-test.true c.loop-worker.invariant c.begin_worker.ensures
