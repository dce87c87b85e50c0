use Rattle.amber_lines.proofs.Kept.{commands_keep_stops}
use Rattle.amber_lines.proofs.stops.commands_keep_stops.Goals as goal

pub returns : goal.returns
returns c = commands_keep_stops
