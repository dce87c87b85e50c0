use Rattle.amber_lines.proofs.Splitting.{open_is_moving_and_offering}
use Rattle.amber_lines.proofs.moving.open_is_moving_and_offering.Goals as goal

pub returns : goal.returns
returns c = open_is_moving_and_offering
