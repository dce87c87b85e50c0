use Rattle.amber_meaning.proofs.Rest.{legs_open}
use Rattle.amber_meaning.proofs.laws.legs_open.Goals as goal

pub returns : goal.returns
returns c = legs_open
