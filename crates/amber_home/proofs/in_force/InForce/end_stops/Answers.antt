-- The operator's arms were written at its place.
use Rattle.std.proofs.Common.{rules}
use Rattle.amber_dataflow.proofs.Changed.{write-at}
use Rattle.amber_home.specs.Asked.{asked_left}
use Rattle.amber_home.proofs.in_force.InForce.end_stops.Goals as goal

pub returns : goal.returns
returns c = rw (← c.self.view_is) (write-at (asked_left c.args.rows) c.args.op c.self.inside.arms.items c.index_mut.result.now c.index_mut.result.now _ (search rules) (search rules) c.index_mut.ensures.value c.end_stops.ensures)
