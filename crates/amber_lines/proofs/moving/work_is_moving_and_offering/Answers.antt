use Rattle.amber_lines.proofs.Splitting.{work_is_moving_and_offering}
use Rattle.amber_lines.proofs.moving.work_is_moving_and_offering.Goals as goal

pub returns : goal.returns
returns c = work_is_moving_and_offering
