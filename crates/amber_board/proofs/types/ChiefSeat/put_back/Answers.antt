use Rattle.std.proofs.Common.{rules}
use Rattle.amber_board.proofs.Keeps.{puts_back}
use Rattle.amber_board.proofs.types.ChiefSeat.put_back.Goals as goal

pub fetch_add-requires : goal.fetch_add-requires
fetch_add-requires c = (c.requires.table, search rules, puts_back _ _ _ _ c.args.self.now.is_chief _ c.args.self.now.in_hand)
