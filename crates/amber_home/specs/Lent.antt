-- Workers that are lent out of an open leg, with the boards of its counts and their chiefs, and what they may have done when they come
-- back.
use Rattle.std.specs.Prelude.{◌≡◌, ℕ, ◌<◌, List, Option, length, option_map}
use Rattle.amber_board.specs.declared.types.Board.{Board}
use Rattle.amber_boards.specs.Boards.{AreLedBy, CounterState, board_at}
use Rattle.amber_dataflow.specs.AtWork.{worker_state_at}
use Rattle.amber_meaning.specs.Legal.{leg_start}
use Rattle.amber_worker.specs.Counting.{IsBoardOf}
use Rattle.amber_worker.specs.Turning.{MakesTurns}
use Rattle.amber_home.specs.Asked.{Asked, IsInForce}
use Rattle.amber_home.specs.Going.{AreReady}
use Rattle.amber_home.specs.HomeState.{HomeState, rest_state, runs_to_end}
use Rattle.amber_home.specs.Kept.{AreWithinLeg}
use Rattle.amber_home.specs.declared.crew.Crew.{Crew}

-- They are workers of the leg that is open in a home: each one's journal leads from where it stood when the leg began to where it
-- stands, its number, condition and constants are those of the leg, and who sends to whom hold the ends of a link. The counts that
-- are in force in the leg are counted on these boards, whose chiefs have no unit in hand.
pub record IsLent (e : HomeState) (crew : Crew) : Type 0 where
  pub workers : AreWithinLeg (runs_to_end e.phase) e crew.workers.items
  pub arms : List Asked
  pub in_force : IsInForce e.flow (leg_start (runs_to_end e.phase) (rest_state e)) arms
  pub ready : AreReady arms crew.boards (record { flow = e.flow; workers = crew.workers.items })
  pub led : AreLedBy crew.boards crew.chiefs.items

-- the board of an operator's count
abbrev pub board_of : List (Option CounterState) → ℕ → Option Board
board_of boards op = option_map (λ counter. counter.board) (board_at boards op)

-- each of these workers made turns, so many at most, and has a seat of the board of its operator's count, if there is one; and the chiefs
-- have no unit in hand, whatever they divided
pub record MakeTurns (most : ℕ) (old new : Crew) : Type 0 where
  pub all : length new.workers.items ≡ length old.workers.items
  pub boards : new.boards ≡ old.boards
  pub each : (worker : ℕ) → worker < length old.workers.items
      → MakesTurns most (worker_state_at old.workers.items worker) (worker_state_at new.workers.items worker)
  pub own : (worker : ℕ) → worker < length old.workers.items
      → IsBoardOf (board_of old.boards (worker_state_at old.workers.items worker).op) (worker_state_at new.workers.items worker).seat
  pub led : AreLedBy old.boards new.chiefs.items
