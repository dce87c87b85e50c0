use Rattle.amber_meaning.proofs.OneState.{items_have_one_state}
use Rattle.amber_meaning.proofs.laws.items_have_one_state.Goals as goal

pub returns : goal.returns
returns c = items_have_one_state
