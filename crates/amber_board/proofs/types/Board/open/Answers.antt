use Rattle.amber_board.proofs.Ends.{opens}
use Rattle.amber_board.proofs.types.Board.open.Goals as goal

pub of_words-requires : goal.of_words-requires
of_words-requires c = opens (record { target = c.args.target; workers = c.args.workers }) c.requires.target c.requires.workers
