-- The seat's step.
use Rattle.std.proofs.Common.{refl}
use Rattle.amber_worker.proofs.counting.give_all.Goals as goal

pub returns-clause-gives : goal.returns-clause-gives
returns-clause-gives c = rw c.in-Some.is (_, refl, c.give_back.ensures.given_back)
