-- The boards of a leg, on which the counts that are in force are counted.
use Rattle.std.specs.Prelude.{◌≡◌, ℕ, ◌+◌, ◌-◌, ◌<◌, ◌≤◌, ◌≢◌, ◌^◌, All, sum_by, List, [], ◌∷◌, ◌++◌, length, map, option_map, Option, None, Some, Bool, is_some, slice_index_or, unwrap_or, true, false}
use Rattle.amber_rows.specs.Lists.{nth}
use Rattle.amber_rows.specs.Topology.{crew_of, first_worker_of, op_of, worker_count}
use Rattle.amber_board.specs.declared.types.Board.{Board}
use Rattle.amber_board.specs.declared.types.ChiefSeat.{ChiefSeat}
use Rattle.amber_board.specs.declared.types.WorkSeat.{WorkSeat}
use Rattle.amber_board.specs.Opening.{IsMade, Opening}
use Rattle.amber_board.specs.Seats.{IsChiefOf, IsSeatOf, board_workers, chief_view, target_of, work_view}
use Rattle.amber_log.specs.declared.entry.Entry.TheVariants as entry
use Rattle.amber_meaning.specs.Legal.{Query}
use Rattle.amber_meaning.specs.Position.{Position}
use Rattle.amber_meaning.specs.State.{State, arms_at}
use Rattle.amber_worker.specs.Changes.{armed_at, disarmed_at}
use Rattle.amber_worker.specs.Counting.{with_back}
use Rattle.amber_worker.specs.WorkerState.{WorkerState}
use Rattle.amber_dataflow.specs.AtWork.{worker_state_at}
use Rattle.amber_dataflow.specs.Dataflow.{DataflowState, StandAt, hand_of, has_finished, has_room, is_short, journal_of, rows_emitted, seat_of, units_counted}
use Rattle.amber_boards.specs.declared.target.Target.{Target}

-- what a count asks for, its board, and a place for the seats of its workers: those that are there, and how many fit
pub record CounterState : Type 0 where
  pub target : Target
  pub board : Board
  pub seats : List WorkSeat
  pub room : ℕ

-- the one of an operator
abbrev pub board_at : List (Option CounterState) → ℕ → Option CounterState
board_at boards op = unwrap_or (nth boards op) None

-- it has one
abbrev pub has_board : List (Option CounterState) → ℕ → Bool
has_board boards op = is_some (board_at boards op)

-- what is asked for at an operator, of what is asked for at each
abbrev pub target_at : List (Option Target) → ℕ → Option Target
target_at counts op = unwrap_or (nth counts op) None

abbrev pub has_target : List (Option Target) → ℕ → Bool
has_target counts op = is_some (target_at counts op)

-- what the count on a board asks for
abbrev pub target_of_count : Option CounterState → Option Target
target_of_count found = option_map (λ counter. counter.target) found

-- what those on these boards ask for
abbrev pub targets_of : List (Option CounterState) → List (Option Target)
targets_of boards = map target_of_count boards

-- ---- one operator

-- one of its workers
abbrev pub IsWorkerOf : DataflowState → ℕ → ℕ → Type 0
IsWorkerOf d op worker = (worker < crew_of d.flow) × (op_of d.flow worker ≡ op)

-- none of its workers has a seat
abbrev pub AreUnarmedAt : ℕ → DataflowState → Type 0
AreUnarmedAt op d = (worker : ℕ) → IsWorkerOf d op worker → seat_of d worker ≡ None

-- a worker has a seat of the board, and room in its journal
pub record HasSeat (board : Board) (d : DataflowState) (worker : ℕ) : Type 0 where
  pub seat : WorkSeat
  pub is : seat_of d worker ≡ Some seat
  pub own : IsSeatOf board seat
  pub room : has_room d worker ≡ true

-- a count that is in force asks for 2^40 rows at most, and its operator had emitted no more when it was armed
pub record IsSince (count : Target) (rows : ℕ) : Type 0 where
  pub since : count.since ≤ rows
  pub few : count.target ≤ 2 ^ 40

-- its count is counted on a board: each of its workers has a seat, and the units of the board are those that its workers have
-- counted, and one for each row that is left to the target
pub record IsCountedOn (counter : CounterState) (op : ℕ) (d : DataflowState) : Type 0 where
  pub workers : board_workers counter.board ≡ worker_count d.flow op
  pub none : counter.seats ≡ []
  pub room : worker_count d.flow op ≤ counter.room
  pub seats : (worker : ℕ) → IsWorkerOf d op worker → HasSeat counter.board d worker
  pub since : IsSince counter.target (rows_emitted d op)
  pub units : target_of counter.board + rows_emitted d op ≡ counter.target.target + counter.target.since + units_counted d op

-- where there is a board its count is counted there, and elsewhere nobody has a seat
abbrev pub IsCountedAt : Option CounterState → ℕ → DataflowState → Type 0
IsCountedAt None op d = AreUnarmedAt op d
IsCountedAt (Some counter) op d = IsCountedOn counter op d

-- the chief of a board has its seat, and no unit in hand; where there is no board there is no chief
abbrev pub IsLedBy : Option CounterState → Option ChiefSeat → Type 0
IsLedBy None None = Unit {0}
IsLedBy None (Some chief) = ⊥
IsLedBy (Some counter) None = ⊥
IsLedBy (Some counter) (Some chief) = IsChiefOf counter.board chief × ((chief_view chief).hand ≡ 0)

-- ---- all of them

-- each of these boards has its chief, in its place
pub record AreLedBy (boards : List (Option CounterState)) (chiefs : List (Option ChiefSeat)) : Type 0 where
  pub all : length chiefs ≡ length boards
  pub each : (place : ℕ) → IsLedBy (slice_index_or boards place None) (slice_index_or chiefs place None)

-- so it is at each operator
pub record AreCounted (boards : List (Option CounterState)) (d : DataflowState) : Type 0 where
  pub all : length boards ≤ length d.flow
  pub each : (op : ℕ) → 0 < op → op ≤ length d.flow → IsCountedAt (board_at boards op) op d

-- nobody has a seat
abbrev pub AreUnarmed : DataflowState → Type 0
AreUnarmed d = (worker : ℕ) → worker < crew_of d.flow → seat_of d worker ≡ None

-- no hand holds a unit
abbrev pub AreEmptyHanded : DataflowState → Type 0
AreEmptyHanded d = (worker : ℕ) → worker < crew_of d.flow → hand_of d worker ≡ 0

-- a count has counted fewer rows than it asks for, where its operator has emitted so many
abbrev pub IsBelow : Option Target → ℕ → Type 0
IsBelow None rows = Unit {0}
IsBelow (Some count) rows = IsSince count rows × (rows < count.target + count.since)

-- it has counted no more
abbrev pub IsWithinTarget : Option Target → ℕ → Type 0
IsWithinTarget None rows = Unit {0}
IsWithinTarget (Some count) rows = IsSince count rows × (rows ≤ count.target + count.since)

abbrev pub AreBelow : List (Option Target) → DataflowState → Type 0
AreBelow counts d = (op : ℕ) → IsBelow (target_at counts op) (rows_emitted d op)

abbrev pub AreWithinTargets : List (Option Target) → DataflowState → Type 0
AreWithinTargets counts d = (op : ℕ) → IsWithinTarget (target_at counts op) (rows_emitted d op)

-- in a leg that began in this state counts were in force just at these operators
abbrev pub AreInForce : (ℕ → Bool) → State → Type 0
AreInForce counted start = (op : ℕ) → is_some (arms_at start op).count ≡ counted op

-- the workers stand somewhere in such a leg
abbrev pub StandInForce : (ℕ → Bool) → DataflowState → Type 0
StandInForce counted d = (query : Query) × (start : State) × (positions : ℕ → Position) × StandAt query start d positions × AreInForce counted start

-- a row is left to the target of an operator's count, if it has one
abbrev pub HasLeft : Option CounterState → ℕ → Type 0
HasLeft None rows = Unit {0}
HasLeft (Some counter) rows = rows ≢ counter.target.target + counter.target.since

-- they stand somewhere in a leg in which a count was in force at this operator
abbrev pub StandsCounted : ℕ → DataflowState → Type 0
StandsCounted op d =
    (query : Query) × (start : State) × (positions : ℕ → Position) × StandAt query start d positions × (is_some (arms_at start op).count ≡ true)

-- of an operator's seats those with units in hand are for workers that have not finished
abbrev pub AreForWorking : DataflowState → ℕ → List WorkSeat → Type 0
AreForWorking d op dealt = (place : ℕ) (one : WorkSeat) → place < length dealt → 0 < (work_view (slice_index_or dealt place one)).hand
    → has_finished d (first_worker_of d.flow op + place) ≡ false

-- what each of these boards asks for is among these, in its place
abbrev pub KeepsTargets : List (Option Target) → List (Option CounterState) → Type 0
KeepsTargets targets boards =
    (place : ℕ) (counter : CounterState) → slice_index_or boards place None ≡ Some counter → slice_index_or targets place None ≡ Some counter.target

-- ---- what is done with units

-- a worker is as it was, but for its seat, its hand, what it has written and the room in its journal
abbrev pub IsSameButUnits : WorkerState → WorkerState → Type 0
IsSameButUnits old new =
    new ≡ record old { seat = new.seat; restraint = record old.restraint { hand = new.restraint.hand }; journal = new.journal; reserved = new.reserved }

-- so are those of an operator, and the others are as they were; wherever they stood in a leg in which a count was in force there, they
-- stand again
pub record ChangesAt (op : ℕ) (old new : DataflowState) : Type 0 where
  pub flow : new.flow ≡ old.flow
  pub long : length new.workers ≡ length old.workers
  pub same : (worker : ℕ) → IsSameButUnits (worker_state_at old.workers worker) (worker_state_at new.workers worker)
  pub others : (worker : ℕ) → op_of old.flow worker ≢ op → worker_state_at new.workers worker ≡ worker_state_at old.workers worker
  pub on : (query : Query) (start : State) (positions : ℕ → Position) → StandAt query start old positions → is_some (arms_at start op).count ≡ true
      → (later : ℕ → Position) × StandAt query start new later

-- a worker has a seat of the board that has counted nothing, with so many units in hand, and room in its journal
pub record IsArmedNow (board : Board) (hand : ℕ) (old new : WorkerState) : Type 0 where
  pub seat : WorkSeat
  pub own : IsSeatOf board seat
  pub none : (work_view seat).mine ≡ 0
  pub hand_is : (work_view seat).hand ≡ hand
  pub is : new ≡ record (armed_at seat old) { reserved = true }

-- the seats of a board: of which operator, and how many units are in hand at each place
pub record Seating : Type 0 where
  pub board : Board
  pub op : ℕ
  pub given : ℕ → ℕ

-- each worker of an operator was armed
pub record ArmsOperator (seating : Seating) (old new : DataflowState) : Type 0 where
  pub change : ChangesAt seating.op old new
  pub here : (place : ℕ) → place < worker_count old.flow seating.op
      → IsArmedNow seating.board (seating.given place)
      (worker_state_at old.workers (first_worker_of old.flow seating.op + place)) (worker_state_at new.workers (first_worker_of old.flow seating.op + place))

-- each worker of an operator was disarmed
pub record DisarmsOperator (op : ℕ) (old new : DataflowState) : Type 0 where
  pub change : ChangesAt op old new
  pub here : (worker : ℕ) → IsWorkerOf old op worker → worker_state_at new.workers worker ≡ disarmed_at (worker_state_at old.workers worker)

-- a board was made so, whose seats are dealt
pub record IsMadeSo (counter : CounterState) (chief : ChiefSeat) (dealt : List WorkSeat) (opening : Opening) : Type 0 where
  pub made : IsMade counter.board chief dealt opening
  pub none : counter.seats ≡ []
  pub room : opening.workers ≤ counter.room

-- all seats of a board's workers are back, with no unit in hand, and have counted so many together
pub record HoldsSeats (counter : CounterState) (units : ℕ) : Type 0 where
  pub own : All (IsSeatOf counter.board) counter.seats
  pub all : length counter.seats ≡ board_workers counter.board
  pub hands : All (λ seat. (work_view seat).hand ≡ 0) counter.seats
  pub counted : sum_by (λ seat. (work_view seat).mine) counter.seats ≡ units

-- the workers are as they were, but for units, and wherever they stood in a leg with counts at these operators they stand again
pub record ChangeUnits (counted : ℕ → Bool) (old new : DataflowState) : Type 0 where
  pub flow : new.flow ≡ old.flow
  pub long : length new.workers ≡ length old.workers
  pub same : (worker : ℕ) → IsSameButUnits (worker_state_at old.workers worker) (worker_state_at new.workers worker)
  pub on : (query : Query) (start : State) (positions : ℕ → Position) → StandAt query start old positions → AreInForce counted start
      → (later : ℕ → Position) × StandAt query start new later

-- a worker has written that its hand was given back, if it held units
abbrev pub WritesBack : DataflowState → DataflowState → ℕ → Type 0
WritesBack old new worker = journal_of new worker ≡ with_back (hand_of old worker) (journal_of old worker)

-- the workers of the operators that count are armed, and nobody has written anything: so no hand holds a unit
pub record ArmsAll (counts : List (Option Target)) (old new : DataflowState) : Type 0 where
  pub units : ChangeUnits (has_target counts) old new
  pub writes : (worker : ℕ) → journal_of new worker ≡ journal_of old worker

-- each worker of the operators that count has given its hand back, and none of them has counted more than is asked for
pub record DisarmsAll (boards : List (Option CounterState)) (old new : DataflowState) : Type 0 where
  pub units : ChangeUnits (has_board boards) old new
  pub unarmed : AreUnarmed new
  pub empty : (worker : ℕ) → worker < crew_of old.flow → has_board boards (op_of old.flow worker) ≡ true → hand_of new worker ≡ 0
  pub writes : (worker : ℕ) → worker < crew_of old.flow → has_board boards (op_of old.flow worker) ≡ true → WritesBack old new worker
  pub others : (worker : ℕ) → worker < crew_of old.flow → has_board boards (op_of old.flow worker) ≡ false
      → worker_state_at new.workers worker ≡ worker_state_at old.workers worker
  pub within : AreWithinTargets (targets_of boards) new

-- a worker that needs a unit was granted all that are left, and the others of its operator have given theirs back
pub record GrantsAllLeft (boards : List (Option CounterState)) (old new : DataflowState) (worker : ℕ) : Type 0 where
  pub units : ChangeUnits (has_board boards) old new
  pub counter : CounterState
  pub counted : board_at boards (op_of old.flow worker) ≡ Some counter
  pub empty : hand_of old worker ≡ 0
  pub fed : is_short new worker ≡ false
  pub grant : journal_of new worker
      ≡ journal_of old worker ++ entry.Grant (counter.target.target + counter.target.since - rows_emitted old (op_of old.flow worker)) ∷ []
  pub own : (other : ℕ) → IsWorkerOf old (op_of old.flow worker) other → other ≢ worker → WritesBack old new other
  pub others : (other : ℕ) → op_of old.flow other ≢ op_of old.flow worker → worker_state_at new.workers other ≡ worker_state_at old.workers other
