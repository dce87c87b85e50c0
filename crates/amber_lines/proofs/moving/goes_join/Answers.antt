use Rattle.amber_lines.proofs.Joining.{goes_join}
use Rattle.amber_lines.proofs.moving.goes_join.Goals as goal

pub returns : goal.returns
returns c = goes_join
