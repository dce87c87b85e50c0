-- A coordinator beside the workers of a round: what it does to the chiefs of boards.
use Rattle.std.specs.Prelude.{◌≡◌, ℕ, List, Option, None, Some, length, slice_index_or}
use Rattle.std.specs.Borrow.{Bor}
use Rattle.amber_board.specs.Seats.{IsChiefOf, chief_view}
use Rattle.amber_board.specs.declared.types.Board.{Board}
use Rattle.amber_board.specs.declared.types.ChiefSeat.{ChiefSeat}
use Rattle.amber_boards.specs.Boards.{CounterState}
use Rattle.amber_leg.specs.Driving.{board_for}
use Rattle.std.specs.Option.{option_map}

-- the chief of a board has its seat, and no unit in hand; where there is no board there is no chief
abbrev pub IsLedOn : Option Board → Option ChiefSeat → Type 0
IsLedOn None None = Unit {0}
IsLedOn None (Some chief) = ⊥
IsLedOn (Some board) None = ⊥
IsLedOn (Some board) (Some chief) = IsChiefOf board chief × ((chief_view chief).hand ≡ 0)

-- each of these boards has its chief, in its place
pub record AreLedOn (boards : List (Option (Bor Board))) (chiefs : List (Option ChiefSeat)) : Type 0 where
  pub all : length chiefs ≡ length boards
  pub each : (place : ℕ) → IsLedOn (board_for boards place) (slice_index_or chiefs place None)

-- these are the boards of all operators, in their places
pub record AreBoardsIn (boards : List (Option CounterState)) (found : List (Option (Bor Board))) : Type 0 where
  pub all : length found ≡ length boards
  pub each : (place : ℕ) → board_for found place ≡ option_map (λ counter. counter.board) (slice_index_or boards place None)
