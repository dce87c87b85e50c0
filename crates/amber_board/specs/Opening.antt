-- What a board and its seats are as they are made.
use Rattle.std.specs.Prelude.{◌≡◌, ℕ, zero, suc, ◌<◌, ◌==◌, if◌then◌else◌, List, [], ◌∷◌, length, replicate, slice_index_or}
use Rattle.amber_board.specs.declared.types.Board.{Board}
use Rattle.amber_board.specs.declared.types.ChiefSeat.{ChiefSeat}
use Rattle.amber_board.specs.declared.types.WorkSeat.{WorkSeat}
use Rattle.amber_board.specs.declared.view.Step.{Step}
use Rattle.amber_board.specs.declared.view.Step.TheVariants.{Split, Draw}
use Rattle.amber_board.specs.Moves.{new_seat}
use Rattle.amber_board.specs.Seats.{target_of, board_workers, chief_view, work_view, IsChiefOf, IsSeatOf}

-- each seat is of the board, is worker k's at place k, counted nothing, and has in hand what k was given
abbrev pub AreDealt : Board → List WorkSeat → (ℕ → ℕ) → Type 0
AreDealt board seats given = (k : ℕ) (d : WorkSeat) → k < length seats
    → IsSeatOf board (slice_index_or seats k d) × (work_view (slice_index_or seats k d) ≡ new_seat k (given k))

-- the chief made the seats of the workers below n, the last one first, after these steps
unfoldable pub splits_after : List Step → ℕ → List Step
splits_after steps zero = steps
splits_after steps (suc n) = Split n ∷ splits_after steps n

-- how a board is made
pub record Opening : Type 0 where
  pub target : ℕ
  pub workers : ℕ
  -- what the chief did before it made the workers' seats
  pub before : List Step
  -- what each worker has in hand
  pub given : ℕ → ℕ

-- the chief moved no unit, so all are unassigned
abbrev pub all_unassigned : ℕ → ℕ → Opening
all_unassigned target workers = record { target = target; workers = workers; before = []; given = λ _. 0 }

-- the chief took all units, and this worker has them
abbrev pub all_with : ℕ → ℕ → ℕ → Opening
all_with worker target workers =
    record { target = target; workers = workers; before = Draw ∷ []; given = λ w. if w == worker then target else 0 }

-- a board that was just made, with its chief, who has nothing in hand, saw nothing and did nothing more, and its workers' seats
pub record IsMade (board : Board) (c : ChiefSeat) (all_seats : List WorkSeat) (opening : Opening) : Type 0 where
  pub target : target_of board ≡ opening.target
  pub workers : board_workers board ≡ opening.workers
  pub chief : IsChiefOf board c
  pub empty : (chief_view c).hand ≡ 0
  pub unseen : (chief_view c).seen ≡ replicate 16 0
  pub did : (chief_view c).done ≡ splits_after opening.before opening.workers
  pub all : length all_seats ≡ opening.workers
  pub seats : AreDealt board all_seats opening.given
