-- What a caller sees of a board and of its seats.
use Rattle.std.specs.Prelude.{◌≡◌, ℕ, ◌<◌}
use Rattle.amber_board.specs.declared.types.Board.{Board}
use Rattle.amber_board.specs.declared.types.ChiefSeat.{ChiefSeat}
use Rattle.amber_board.specs.declared.types.WorkSeat.{WorkSeat}
use Rattle.amber_board.specs.declared.view.View.{View}
use Rattle.amber_board.specs.Ledger.{worker_number_of}

-- what all units of the board add up to
abbrev pub target_of : Board → ℕ
target_of board = board.table.shared.key.target

-- how many workers the board has
abbrev pub board_workers : Board → ℕ
board_workers board = board.table.shared.key.workers

-- what the chief knows
abbrev pub chief_view : ChiefSeat → View
chief_view chief = chief.seat.me.0

-- what a worker knows
abbrev pub work_view : WorkSeat → View
work_view worker = worker.seat.me.0

-- the number of the worker whose seat it is
abbrev pub worker_of : WorkSeat → ℕ
worker_of worker = worker_number_of (work_view worker).role

-- the chief's seat is of this board
pub record IsChiefOf (board : Board) (chief : ChiefSeat) : Type 0 where
  pub table : chief.seat.table_id ≡ board.table.shared.table_id
  pub target : (chief_view chief).target ≡ target_of board
  pub workers : (chief_view chief).made ≡ board_workers board

-- the worker's seat is of this board
pub record IsSeatOf (board : Board) (worker : WorkSeat) : Type 0 where
  pub table : worker.seat.table_id ≡ board.table.shared.table_id
  pub number : worker_of worker < board_workers board
