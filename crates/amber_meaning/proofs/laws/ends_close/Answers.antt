use Rattle.amber_meaning.proofs.Rest.{ends_close}
use Rattle.amber_meaning.proofs.laws.ends_close.Goals as goal

pub returns : goal.returns
returns c = ends_close
