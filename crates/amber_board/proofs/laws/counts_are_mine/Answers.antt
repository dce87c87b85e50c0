use Rattle.amber_board.proofs.Ends.{mine_exact}
use Rattle.amber_board.proofs.laws.counts_are_mine.Goals as goal

pub returns : goal.returns
returns c v number is few = mine_exact v number is few
