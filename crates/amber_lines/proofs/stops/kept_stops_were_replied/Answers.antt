use Rattle.amber_lines.proofs.Kept.{kept_stops_were_replied}
use Rattle.amber_lines.proofs.stops.kept_stops_were_replied.Goals as goal

pub returns : goal.returns
returns c = kept_stops_were_replied
