use Rattle.std.proofs.Common.{rules}
use Rattle.amber_rows.specs.Topology.{crew_of}
use Rattle.amber_rows.proofs.topology.workers_in.Goals as goal

pub returns : goal.returns
unfolding crew_of
returns c = Prim.search (rules)
