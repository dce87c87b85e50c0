use Rattle.amber_meaning.proofs.Rest.{legal_logs_rest}
use Rattle.amber_meaning.proofs.laws.legal_logs_rest.Goals as goal

pub returns : goal.returns
returns c = legal_logs_rest
