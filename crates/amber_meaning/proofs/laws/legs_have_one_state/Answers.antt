use Rattle.amber_meaning.proofs.OneState.{legs_have_one_state}
use Rattle.amber_meaning.proofs.laws.legs_have_one_state.Goals as goal

pub returns : goal.returns
returns c = legs_have_one_state
