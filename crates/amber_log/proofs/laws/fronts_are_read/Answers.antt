use Rattle.amber_log.proofs.Torn.{fronts_are_read}
use Rattle.amber_log.proofs.laws.fronts_are_read.Goals as goal

pub returns : goal.returns
returns c = fronts_are_read
