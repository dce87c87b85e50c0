-- The operator's arms were written at its place.
use Rattle.std.proofs.Common.{rules}
use Rattle.amber_dataflow.proofs.Changed.{write-at}
use Rattle.amber_home.specs.Asked.{asked_changed}
use Rattle.amber_home.proofs.in_force.InForce.change.Goals as goal

pub returns : goal.returns
returns c = rw (← c.self.view_is) (write-at (asked_changed c.args.arming.now c.args.emitted) c.args.op c.self.inside.arms.items c.index_mut.result.now c.index_mut.result.now _ (search rules) (search rules) c.index_mut.ensures.value c.change.ensures)
