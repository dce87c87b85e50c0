use Rattle.amber_meaning.proofs.OneState.{legal_logs_have_one_state}
use Rattle.amber_meaning.proofs.laws.legal_logs_have_one_state.Goals as goal

pub returns : goal.returns
returns c = legal_logs_have_one_state
