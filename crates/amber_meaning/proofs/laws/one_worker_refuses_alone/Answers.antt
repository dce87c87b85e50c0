use Rattle.amber_meaning.proofs.Given.{one_worker_refuses_alone}
use Rattle.amber_meaning.proofs.laws.one_worker_refuses_alone.Goals as goal

pub returns : goal.returns
returns c = one_worker_refuses_alone
