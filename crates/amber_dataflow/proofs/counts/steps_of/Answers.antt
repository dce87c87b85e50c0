-- The steps of one worker more.
use Rattle.std.proofs.Common.{sym, ◌+◌, arith}
use Rattle.amber_dataflow.proofs.Steps.{steps-few, steps-next, steps-none}
use Rattle.amber_dataflow.proofs.counts.steps_of.Goals as goal

pub loop-worker-init : goal.loop-worker-init
loop-worker-init c = sym steps-none

pub overflow_add-steps : goal.overflow_add-steps
overflow_add-steps c =
    let next = steps-next c.args.crew.now c.loop-worker.worker-index c.loop-worker.steps c.steps-steps.result c.worker-item.result c.loop-worker-test.true c.worker-item.is
    c.steps-steps.ensures c.loop-worker.invariant in
    let few = steps-few c.args.crew.now (c.loop-worker.worker-index + 1) in
    let most = c.requires in
    omega arith

pub loop-worker-preserved : goal.loop-worker-preserved
loop-worker-preserved c =
    steps-next c.args.crew.now c.loop-worker.worker-index c.loop-worker.steps c.steps-steps.result c.worker-item.result c.loop-worker-test.true c.worker-item.is
    c.steps-steps.ensures c.loop-worker.invariant
