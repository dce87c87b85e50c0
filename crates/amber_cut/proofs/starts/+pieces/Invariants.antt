-- Each part has fewer pieces.
use Rattle.std.proofs.Common.{◌+◌, ◌*◌}
use Rattle.amber_cut.proofs.starts.+pieces.Given as goal

abbrev pub decreases-line_starts_on : goal.decreases-line_starts_on
decreases-line_starts_on g l = 2 * l.pieces

abbrev pub decreases-front : goal.decreases-front
decreases-front g l = 2 * l.low + 1

abbrev pub decreases-back : goal.decreases-back
decreases-back g l = 2 * l.high + 1
