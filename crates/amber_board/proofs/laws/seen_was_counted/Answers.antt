use Rattle.amber_board.proofs.Ends.{seen_exact}
use Rattle.amber_board.proofs.laws.seen_was_counted.Goals as goal

pub returns : goal.returns
returns c v is = seen_exact v is
