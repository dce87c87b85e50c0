use Rattle.amber_laws.proofs.Arming.{counts_count_since_armed}
use Rattle.amber_laws.proofs.counts.counts_count_since_armed.Goals as goal

pub returns : goal.returns
returns c = counts_count_since_armed
