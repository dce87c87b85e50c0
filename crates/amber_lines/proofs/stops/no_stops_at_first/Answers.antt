use Rattle.amber_lines.proofs.Kept.{no_stops_at_first}
use Rattle.amber_lines.proofs.stops.no_stops_at_first.Goals as goal

pub returns : goal.returns
returns c = no_stops_at_first
