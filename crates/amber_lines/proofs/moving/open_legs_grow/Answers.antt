use Rattle.amber_lines.proofs.Growing.{open_legs_grow}
use Rattle.amber_lines.proofs.moving.open_legs_grow.Goals as goal

pub returns : goal.returns
returns c = open_legs_grow
