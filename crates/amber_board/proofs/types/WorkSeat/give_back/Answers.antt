use Rattle.std.proofs.Common.{rules}
use Rattle.amber_board.proofs.Keeps.{gives_back}
use Rattle.amber_board.proofs.types.WorkSeat.give_back.Goals as goal

pub fetch_add-requires : goal.fetch_add-requires
fetch_add-requires c = (c.requires.table, search rules, gives_back _ _ _ _ _ c.args.self.now.is_worker c.args.self.now.few _ c.args.self.now.in_hand)
