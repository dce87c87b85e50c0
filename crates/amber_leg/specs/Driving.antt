-- Workers that are driven by threads: what each may do, and what it has done.
use Rattle.std.specs.Prelude.{◌≡◌, ℕ, ◌*◌, List, Option, None, length, slice_index_or}
use Rattle.std.specs.Borrow.{Bor}
use Rattle.std.specs.Option.{option_copied}
use Rattle.amber_board.specs.declared.types.Board.{Board}
use Rattle.amber_worker.specs.WorkerState.{WorkerState}
use Rattle.amber_leg.specs.Slices.{HasTurnedSo, MayTurn}
use Rattle.amber_leg.specs.declared.driver.Driver.{Driver}
use Rattle.amber_leg.specs.declared.budget.Budget.{Budget}

-- the turns that each worker may make in a round
abbrev pub turns_of : Budget → ℕ
turns_of budget = budget.passes * budget.slice

-- the board of a worker's operator, if it has one, where these are the boards by the workers' numbers
abbrev pub board_for : List (Option (Bor Board)) → ℕ → Option Board
board_for boards worker = option_copied (slice_index_or boards worker None)

-- the worker that a driver has at this place, if it has one there
abbrev pub worker_placed : Driver → ℕ → Option WorkerState
worker_placed driver place = slice_index_or driver.workers.items place None

-- a driver's workers may make so many turns each, on these boards
pub record MayDrive (turns : ℕ) (boards : List (Option (Bor Board))) (driver : Driver) : Type 0 where
  pub all : length driver.workers.items ≡ length boards
  pub each : (place : ℕ) → MayTurn turns (board_for boards place) (worker_placed driver place)

-- each of a driver's workers has made turns, so many at most, on these boards
pub record HasDrivenAll (turns : ℕ) (boards : List (Option (Bor Board))) (old new : Driver) : Type 0 where
  pub all : length new.workers.items ≡ length old.workers.items
  pub each : (place : ℕ) → HasTurnedSo turns (board_for boards place) (worker_placed old place) (worker_placed new place)
