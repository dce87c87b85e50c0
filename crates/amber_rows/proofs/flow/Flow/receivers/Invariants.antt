-- The receivers among the workers so far.
use Rattle.std.proofs.Common.{◌≡◌, filter}
use Rattle.amber_rows.specs.Lists.{numbers_below}
use Rattle.amber_rows.specs.Topology.{sends_to}
use Rattle.amber_rows.proofs.flow.Flow.receivers.Given as goal

abbrev pub invariant-loop-receiver : goal.invariant-loop-receiver
invariant-loop-receiver l = l.found.items ≡ filter (λ receiver. sends_to l.self l.worker receiver) (numbers_below l.receiver)
