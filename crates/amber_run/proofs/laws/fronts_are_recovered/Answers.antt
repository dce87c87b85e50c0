use Rattle.amber_run.proofs.Recovering.{fronts_are_recovered}
use Rattle.amber_run.proofs.laws.fronts_are_recovered.Goals as goal

pub returns : goal.returns
returns c = fronts_are_recovered
