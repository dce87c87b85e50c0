-- Batches were sent so far, in their order.
use Rattle.std.proofs.Common.{length}
use Rattle.amber_link.specs.Links.{Forwards}
use Rattle.amber_link.proofs.ends.Out.send.Given as goal

abbrev pub invariant-loop-self : goal.invariant-loop-self
invariant-loop-self l = Forwards l.fn.self l.self

abbrev pub decreases-loop-self : goal.decreases-loop-self
decreases-loop-self l = length l.self.kept.waiting
