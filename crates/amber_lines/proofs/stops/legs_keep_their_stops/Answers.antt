use Rattle.amber_lines.proofs.Kept.{legs_keep_their_stops}
use Rattle.amber_lines.proofs.stops.legs_keep_their_stops.Goals as goal

pub returns : goal.returns
returns c = legs_keep_their_stops
