-- The senders among the workers so far.
use Rattle.std.proofs.Common.{◌≡◌, filter}
use Rattle.amber_rows.specs.Lists.{numbers_below}
use Rattle.amber_rows.specs.Topology.{sends_to}
use Rattle.amber_rows.proofs.flow.Flow.senders.Given as goal

abbrev pub invariant-loop-sender : goal.invariant-loop-sender
invariant-loop-sender l = l.found.items ≡ filter (λ sender. sends_to l.self sender l.worker) (numbers_below l.sender)
