use Rattle.amber_meaning.proofs.Fronts.{legal_logs_grow}
use Rattle.amber_meaning.proofs.laws.legal_logs_grow.Goals as goal

pub returns : goal.returns
returns c = legal_logs_grow
