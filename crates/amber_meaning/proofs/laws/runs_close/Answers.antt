use Rattle.amber_meaning.proofs.Rest.{runs_close}
use Rattle.amber_meaning.proofs.laws.runs_close.Goals as goal

pub returns : goal.returns
returns c = runs_close
