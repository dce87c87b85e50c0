use Rattle.std.proofs.Common.{rules}
use Rattle.amber_board.proofs.Keeps.{claims}
use Rattle.amber_board.proofs.types.WorkSeat.claim.Goals as goal

pub swap-found-requires : goal.swap-found-requires
swap-found-requires c = (c.requires.table, search rules, claims _ _ _ _ _ c.args.self.now.is_worker c.args.self.now.few)
