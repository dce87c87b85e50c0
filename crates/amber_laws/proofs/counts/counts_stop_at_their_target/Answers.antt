use Rattle.amber_laws.proofs.CountStops.{counts_stop_at_their_target}
use Rattle.amber_laws.proofs.counts.counts_stop_at_their_target.Goals as goal

pub returns : goal.returns
returns c = counts_stop_at_their_target
