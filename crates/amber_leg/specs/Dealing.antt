-- Workers that are dealt among drivers, each to the one that owns it: `owners` has the owners' numbers, by those of the workers.
use Rattle.std.specs.Prelude.{◌≡◌, ℕ, ◌==◌, ◌<◌, List, Option, None, Some, false, length, slice_index, slice_index_or, if◌then◌else◌}
use Rattle.std.specs.Borrow.{Bor}
use Rattle.amber_board.specs.declared.types.Board.{Board}
use Rattle.amber_boards.specs.Boards.{AreLedBy, CounterState}
use Rattle.amber_worker.specs.WorkerState.{WorkerState}
use Rattle.amber_dataflow.specs.AtWork.{worker_state_at}
use Rattle.amber_home.specs.Lent.{board_of}
use Rattle.amber_home.specs.declared.crew.Crew.{Crew}
use Rattle.amber_leg.specs.declared.driver.Driver.{Driver}
use Rattle.amber_leg.specs.Driving.{HasDrivenAll, board_for, worker_placed}
use Rattle.amber_leg.specs.Slices.{HasCounted, MayTurn}

-- what a driver has at a place: the worker of that number where it is the driver's
abbrev pub dealt_place : List ℕ → List WorkerState → ℕ → ℕ → Option WorkerState
dealt_place owners crew driver place = if slice_index owners place == driver then Some (worker_state_at crew place) else None

-- each driver has a place for each worker, where its own are and no others
pub record AreDealtOut (owners : List ℕ) (crew : List WorkerState) (drivers : List Driver) : Type 0 where
  pub all : (driver : ℕ) (d : Driver) → driver < length drivers → length (slice_index_or drivers driver d).workers.items ≡ length crew
  pub each : (driver place : ℕ) (d : Driver) → driver < length drivers → place < length crew
      → worker_placed (slice_index_or drivers driver d) place ≡ dealt_place owners crew driver place

-- each driver that has not failed has driven its workers, for so many turns at most, on these boards
pub record HaveDriven (turns : ℕ) (boards : List (Option (Bor Board))) (old new : List Driver) : Type 0 where
  pub all : length new ≡ length old
  pub each : (driver : ℕ) (d : Driver) → driver < length old → (slice_index_or new driver d).failed ≡ false
      → HasDrivenAll turns boards (slice_index_or old driver d) (slice_index_or new driver d)

-- none has failed
abbrev pub HaveNotFailed : List Driver → Type 0
HaveNotFailed drivers = (driver : ℕ) (d : Driver) → driver < length drivers → (slice_index_or drivers driver d).failed ≡ false

-- these are their workers, by their numbers
abbrev pub AreOf : List ℕ → List Driver → List WorkerState → Type 0
AreOf owners drivers crew = (place : ℕ) (d : Driver) → place < length crew
    → worker_placed (slice_index_or drivers (slice_index owners place) d) place ≡ Some (worker_state_at crew place)

-- workers that are away may make so many turns each, on the boards of their operators, whose chiefs have no unit in hand
pub record AreReadyFor (turns : ℕ) (crew : Crew) : Type 0 where
  pub led : AreLedBy crew.boards crew.chiefs.items
  pub each : (worker : ℕ) → worker < length crew.workers.items
      → MayTurn turns (board_of crew.boards (worker_state_at crew.workers.items worker).op) (Some (worker_state_at crew.workers.items worker))

-- the boards of these workers' operators, by the workers' numbers
pub record AreBoardsOf (boards : List (Option CounterState)) (crew : List WorkerState) (found : List (Option (Bor Board))) : Type 0 where
  pub all : length found ≡ length crew
  pub each : (worker : ℕ) → worker < length crew → board_for found worker ≡ board_of boards (worker_state_at crew worker).op

-- each of these workers has made turns, so many at most, and has counted them
pub record HaveCounted (turns : ℕ) (old new : List WorkerState) : Type 0 where
  pub each : (worker : ℕ) → worker < length old → HasCounted turns (worker_state_at old worker) (worker_state_at new worker)
