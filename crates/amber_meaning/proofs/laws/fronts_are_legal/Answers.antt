use Rattle.amber_meaning.proofs.Fronts.{fronts_are_legal}
use Rattle.amber_meaning.proofs.laws.fronts_are_legal.Goals as goal

pub returns : goal.returns
returns c = fronts_are_legal
