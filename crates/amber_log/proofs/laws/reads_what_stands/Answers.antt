use Rattle.amber_log.proofs.Exact.{reads_what_stands}
use Rattle.amber_log.proofs.laws.reads_what_stands.Goals as goal

pub returns : goal.returns
returns c = reads_what_stands
