-- The workers are away, and none is left.
use Rattle.amber_dataflow.proofs.Kept.{none-left}
use Rattle.amber_dataflow.proofs.dataflow.Dataflow.lend_to.Goals as goal

pub invariant_of-self : goal.invariant_of-self
invariant_of-self c =
    let i = c.self.inside in
    none-left (record { flow = i.flow; workers = i.workers.items }) c.self.invariant c.clear.new.self.items c.clear.ensures.items
