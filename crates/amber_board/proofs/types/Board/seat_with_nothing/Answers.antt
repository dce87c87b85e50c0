use Rattle.std.proofs.Common.{rules, arith}
use Rattle.amber_board.proofs.Ends.{splits}
use Rattle.amber_board.proofs.types.Board.seat_with_nothing.Goals as goal

pub split_seat-seat-requires : goal.split_seat-seat-requires
split_seat-seat-requires c = (c.requires.table, search rules, splits _ _ _ _ _ c.args.chief.now.is_chief c.requires.room.0 (omega arith))
