use Rattle.amber_meaning.proofs.Given.{finished_operators_refuse}
use Rattle.amber_meaning.proofs.laws.finished_operators_refuse.Goals as goal

pub returns : goal.returns
returns c = finished_operators_refuse
