-- One operator more was cleared.
use Rattle.amber_home.specs.Asked.{without_asked}
use Rattle.amber_dataflow.proofs.Changed.{write-left}
use Rattle.amber_home.proofs.in_force.InForce.begin_leg.Goals as goal

pub loop-arms-preserved : goal.loop-arms-preserved
loop-arms-preserved c =
    write-left without_asked c.deref_mut-arms-items.result.now c.loop-arms.arms-items c.loop-arms.arms-index c.arms-item.result c.clear.new.self
    c.loop-arms-test.true c.loop-arms.invariant c.clear.ensures
