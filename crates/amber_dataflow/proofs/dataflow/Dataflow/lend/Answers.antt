-- None is left.
use Rattle.std.proofs.Common.{rules}
use Rattle.amber_dataflow.proofs.Kept.{none-left}
use Rattle.amber_dataflow.proofs.dataflow.Dataflow.lend.Goals as goal

pub invariant_of-self : goal.invariant_of-self
invariant_of-self c = none-left (record { flow = c.self.inside.flow; workers = c.self.inside.workers.items }) c.self.invariant c.replace.new.dest.items (search rules)
