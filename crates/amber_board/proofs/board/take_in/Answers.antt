use Rattle.std.proofs.Common.{rules}
use Rattle.amber_board.proofs.Ends.{joins}
use Rattle.amber_board.proofs.board.take_in.Goals as goal

pub join_seat-requires : goal.join_seat-requires
join_seat-requires c = (
  c.requires.chief.0,
  c.requires.worker.0,
  c.args.worker.no_slots,
  search rules,
  joins _ _ _ _ _ c.args.worker.number c.requires.chief.1 c.args.worker.is_worker c.requires.worker.1,
)
