use Rattle.amber_run.proofs.Replaying.{fronts_are_replayed}
use Rattle.amber_run.proofs.laws.fronts_are_replayed.Goals as goal

pub returns : goal.returns
returns c = fronts_are_replayed
