use Rattle.std.proofs.Common.{rules}
use Rattle.amber_board.proofs.Keeps.{draws}
use Rattle.amber_board.proofs.types.ChiefSeat.take_unassigned.Goals as goal

pub swap-found-requires : goal.swap-found-requires
swap-found-requires c = (c.requires, search rules, draws _ _ _ _ c.args.self.now.is_chief)
