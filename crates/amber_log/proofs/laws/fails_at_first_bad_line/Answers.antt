use Rattle.amber_log.proofs.BadLines.{fails_at_first_bad_line}
use Rattle.amber_log.proofs.laws.fails_at_first_bad_line.Goals as goal

pub returns : goal.returns
returns c = fails_at_first_bad_line
