use Rattle.std.proofs.Common.{rules}
use Rattle.amber_board.proofs.Keeps.{counts}
use Rattle.amber_board.proofs.types.WorkSeat.count.Goals as goal

pub fetch_add-requires : goal.fetch_add-requires
fetch_add-requires c = (c.requires.own.table, search rules, counts _ _ _ _ _ c.args.self.now.is_worker c.args.self.now.few c.requires.has)
