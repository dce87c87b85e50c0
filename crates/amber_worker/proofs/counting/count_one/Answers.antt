-- The seat's step.
use Rattle.std.proofs.Common.{refl}
use Rattle.amber_worker.proofs.counting.count_one.Goals as goal

pub returns-clause-counts : goal.returns-clause-counts
returns-clause-counts c = rw c.in-Some.is (_, refl, c.count.ensures.counted)
