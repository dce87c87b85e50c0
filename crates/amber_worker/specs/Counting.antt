-- A worker's seat on the board of a count: what it claims, counts and gives back.
use Rattle.std.specs.Prelude.{◌≡◌, ℕ, ◌^◌, ◌<◌, ◌==◌, Option, Some, None, List, [], ◌∷◌, ◌++◌, if◌then◌else◌}
use Rattle.amber_board.specs.declared.types.Board.{Board}
use Rattle.amber_board.specs.declared.types.WorkSeat.{WorkSeat}
use Rattle.amber_board.specs.Moves.{after_claim, counted_one, given_back}
use Rattle.amber_board.specs.Seats.{IsSeatOf, work_view, worker_of}
use Rattle.amber_log.specs.declared.entry.Entry.{Entry}
use Rattle.amber_log.specs.declared.entry.Entry.TheVariants as entry
use Rattle.amber_worker.specs.declared.counting.Dealing.{Dealing}
use Rattle.amber_worker.specs.declared.counting.Dealing.TheVariants as dealing

-- ---- a seat

-- the units in hand
abbrev pub hand_in : Option WorkSeat → ℕ
hand_in None = 0
hand_in (Some seat) = (work_view seat).hand

-- the units that were counted
abbrev pub mine_in : Option WorkSeat → ℕ
mine_in None = 0
mine_in (Some seat) = (work_view seat).mine

-- a board is there exactly where there is a seat, which is one of it
abbrev pub IsBoardOf : Option Board → Option WorkSeat → Type 0
IsBoardOf None None = Unit {0}
IsBoardOf (Some board) (Some seat) = IsSeatOf board seat
IsBoardOf board seat = ⊥

-- the seat of the same worker, or none still
abbrev pub IsSameSeat : Option WorkSeat → Option WorkSeat → Type 0
IsSameSeat None now = now ≡ None
IsSameSeat (Some seat) now = (after : WorkSeat) × (now ≡ Some after) × ((work_view after).role ≡ (work_view seat).role)

-- ---- steps of a seat

-- a unit of the hand was counted
abbrev pub CountsOne : Option WorkSeat → Option WorkSeat → Type 0
CountsOne None now = now ≡ None
CountsOne (Some seat) now = (after : WorkSeat) × (now ≡ Some after) × (work_view after ≡ counted_one (work_view seat) (worker_of seat))

-- the allotment was claimed: so many units
abbrev pub Claims : ℕ → Option WorkSeat → Option WorkSeat → Type 0
Claims n None now = (now ≡ None) × (n ≡ 0)
Claims n (Some seat) now = (after : WorkSeat) × (now ≡ Some after) × (work_view after ≡ after_claim (work_view seat) (worker_of seat) n)

-- the whole hand was given back
abbrev pub GivesBack : Option WorkSeat → Option WorkSeat → Type 0
GivesBack None now = now ≡ None
GivesBack (Some seat) now = (after : WorkSeat) × (now ≡ Some after) × (work_view after ≡ given_back (work_view seat) (worker_of seat))

-- ---- the journal

-- units were claimed, where there were any
abbrev pub with_grant : ℕ → List Entry → List Entry
with_grant n journal = if n == 0 then journal else journal ++ entry.Grant n ∷ []

-- units were given back, where there were any
abbrev pub with_back : ℕ → List Entry → List Entry
with_back n journal = if n == 0 then journal else journal ++ entry.Back n ∷ []

-- ---- both

-- a seat, and a journal
pub record SeatSide : Type 0 where
  pub seat : Option WorkSeat
  pub journal : List Entry

-- so many units were claimed
pub record ClaimsUnits (old new : SeatSide) : Type 0 where
  pub units : ℕ
  pub few : units < 2 ^ 64
  pub claims : Claims units old.seat new.seat
  pub journal : new.journal ≡ with_grant units old.journal

-- the hand was given back
pub record ReturnsUnits (old new : SeatSide) : Type 0 where
  pub gives : GivesBack old.seat new.seat
  pub journal : new.journal ≡ with_back (hand_in old.seat) old.journal

-- units were dealt with so
abbrev pub DealsUnits : Dealing → SeatSide → SeatSide → Type 0
DealsUnits dealing.Nothing old new = new ≡ old
DealsUnits dealing.Claims old new = ClaimsUnits old new
DealsUnits dealing.Returns old new = ReturnsUnits old new
