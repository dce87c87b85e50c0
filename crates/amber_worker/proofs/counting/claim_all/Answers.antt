-- The seat's step.
use Rattle.std.proofs.Common.{refl}
use Rattle.amber_worker.proofs.counting.claim_all.Goals as goal

pub returns-clause-claims : goal.returns-clause-claims
returns-clause-claims c = rw c.in-Some.is (_, refl, c.claim.ensures.claimed)
