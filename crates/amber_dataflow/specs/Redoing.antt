-- Workers that do a leg of a log again, entry by entry, each with the hand that its position has.
use Rattle.std.specs.Prelude.{◌≡◌, ◌≢◌, ℕ, ◌<◌, ◌==◌, ◌++◌, List, [], ◌∷◌, length, map, is_some, None, Some, Bool, true, false}
use Rattle.std.specs.List.{list_any}
use Rattle.amber_board.specs.Seats.{IsSeatOf, work_view}
use Rattle.amber_board.specs.declared.types.Board.{Board}
use Rattle.amber_board.specs.declared.types.WorkSeat.{WorkSeat}
use Rattle.amber_lines.specs.Lines.{Within, bad_line_from, judge_all, may_enter, state_behind}
use Rattle.amber_log.specs.declared.entry.Entry.{Entry}
use Rattle.amber_log.specs.declared.entry.Entry.TheVariants as entry
use Rattle.amber_log.specs.declared.line.Line.{Line}
use Rattle.amber_log.specs.declared.line.Line.TheVariants as line
use Rattle.amber_meaning.specs.Legal.{Query}
use Rattle.amber_meaning.specs.Position.{Position}
use Rattle.amber_meaning.specs.State.{State, position_at}
use Rattle.amber_rows.specs.FlowRules.{IsFlow}
use Rattle.amber_rows.specs.Topology.{crew_of}
use Rattle.amber_worker.specs.AtPosition.{Base, IsAtPosition}
use Rattle.amber_worker.specs.Pairs.{AreJoined}
use Rattle.amber_worker.specs.Redoing.{LogLine, hand_after, hand_before, with_hand}
use Rattle.amber_worker.specs.WorkerState.{WorkerState}
use Rattle.amber_worker.specs.declared.redoing.Redone.{Redone}
use Rattle.amber_worker.specs.declared.redoing.Redone.TheVariants as redone
use Rattle.amber_dataflow.specs.AtWork.{MovesOnly, context_in, is_counted, state_reached, worker_state_at}
use Rattle.amber_dataflow.specs.Passing.{AreSameBesides, Settled}
use Rattle.amber_dataflow.specs.declared.redoing.PartRedone.{PartRedone}
use Rattle.amber_dataflow.specs.declared.redoing.PartRedone.TheVariants as part_redone

-- ---- where they stand

-- where the workers of a query stand, in a leg that began in this state
pub record Stance : Type 0 where
  pub query : Query
  pub start : State
  pub positions : ℕ → Position

-- the state in which they are then
abbrev pub state_in : Stance → State
state_in at = state_reached at.query at.start at.positions

-- they are elsewhere
abbrev pub stand_later : Stance → (ℕ → Position) → Stance
stand_later at later = record at { positions = later }

-- one of the workers, with what its position has in hand
abbrev pub in_hand : (ℕ → Position) → List WorkerState → ℕ → WorkerState
in_hand positions crew worker = with_hand (positions worker).restraint.hand (worker_state_at crew worker)

-- workers that do a leg again stand there, and who sends to whom hold the ends of a link: the journal of each leads there from where it
-- stood in the state in which the leg began, once it has in hand what its position has
pub record AreRedoneAt (at : Stance) (crew : List WorkerState) : Type 0 where
  pub flow : IsFlow at.query.flow
  pub bases : ℕ → Base
  pub earlier : (from to : ℕ) → (bases from).gave to ≡ (bases to).had from
  pub all : length crew ≡ crew_of at.query.flow
  pub each : (worker : ℕ) → worker < crew_of at.query.flow
      → IsAtPosition (context_in bases at.query at.start worker) (in_hand at.positions crew worker) (position_at at.start.positions worker) (at.positions worker)
  pub joined : (from to : ℕ) → from < crew_of at.query.flow → to < crew_of at.query.flow → AreJoined (worker_state_at crew from) (worker_state_at crew to)

-- they do so somewhere
abbrev pub IsRedoneCrew : List WorkerState → Type 0
IsRedoneCrew crew = (at : Stance) × AreRedoneAt at crew

-- ---- a line

-- a line of a worker
pub record LineOf : Type 0 where
  pub worker : ℕ
  pub line : LogLine

-- a count is in force there just where the line says so, and it has in hand what the line says
pub record HasLineHand (at : Stance) (one : LineOf) : Type 0 where
  pub counted : is_counted at.query at.start one.worker ≡ is_some one.line.armed
  pub hand : (at.positions one.worker).restraint.hand ≡ hand_before one.line.armed

-- they stand there, and the line comes next
pub record StandBefore (at : Stance) (one : LineOf) (crew : List WorkerState) : Type 0 where
  pub stand : AreRedoneAt at crew
  pub hand : HasLineHand at one

-- they stand somewhere so
abbrev pub LineComesNext : LineOf → List WorkerState → Type 0
LineComesNext one crew = (at : Stance) × StandBefore at one crew

abbrev pub may_be_next : Stance → LineOf → Bool
may_be_next at one = may_enter at.query (state_in at) one.worker one.line.entry

-- the line could stand there, and leads to these positions
pub record LeadsTo (at : Stance) (one : LineOf) (later : ℕ → Position) : Type 0 where
  pub may : may_be_next at one ≡ true
  pub leads : state_in (stand_later at later) ≡ state_behind at.query (state_in at) one.worker one.line.entry
  pub hand : (later one.worker).restraint.hand ≡ hand_after one.line
  pub others : (other : ℕ) → other ≢ one.worker → later other ≡ at.positions other

-- wherever they stood before it, it could, and they stand behind it
unfoldable pub MakesLine : LineOf → List WorkerState → List WorkerState → Type 0
MakesLine one old new = (at : Stance) → StandBefore at one old → (later : ℕ → Position) × AreRedoneAt (stand_later at later) new × LeadsTo at one later

-- a worker has written these entries, has the same seat and was not driven, and the others have done nothing
pub record WritesAlone (worker : ℕ) (entries : List Entry) (old new : List WorkerState) : Type 0 where
  pub long : length new ≡ length old
  pub writes : (worker_state_at new worker).journal ≡ (worker_state_at old worker).journal ++ entries
  pub seat : (worker_state_at new worker).seat ≡ (worker_state_at old worker).seat
  pub undriven : (worker_state_at new worker).turned ≡ (worker_state_at old worker).turned
  pub others : MovesOnly old new worker

-- the line was done
pub record HasMadeLine (one : LineOf) (old new : List WorkerState) : Type 0 where
  pub makes : MakesLine one old new
  -- nothing is in hand where no count is in force
  pub unarmed : one.line.armed ≡ None → hand_after one.line ≡ 0
  pub alone : WritesAlone one.worker (one.line.entry ∷ []) old new

-- wherever they stood before it, it could not stand there
unfoldable pub CannotMakeLine : LineOf → List WorkerState → Type 0
CannotMakeLine one old = (at : Stance) → StandBefore at one old → may_be_next at one ≡ false

-- the line was done, with this in hand then, or could not be
abbrev pub MakesOrNot : LineOf → List WorkerState → List WorkerState → Redone → Type 0
MakesOrNot one old new (redone.Done hand) = HasMadeLine one old new × (hand ≡ hand_after one.line)
MakesOrNot one old new redone.Illegal = CannotMakeLine one old

-- ---- the sender of a line's batch

-- the link from the sender whose batch an entry takes
abbrev pub IsSettledFor : List WorkerState → ℕ → Entry → Type 0
IsSettledFor crew worker (entry.Take from batch) = list_any (λ one. one.from == from) (worker_state_at crew worker).ins ≡ true → Settled crew from worker
IsSettledFor crew worker (entry.Go rows outs) = Unit {0}
IsSettledFor crew worker (entry.Grant n) = Unit {0}
IsSettledFor crew worker (entry.Back n) = Unit {0}
IsSettledFor crew worker entry.Pause = Unit {0}
IsSettledFor crew worker entry.Resume = Unit {0}
IsSettledFor crew worker entry.Hold = Unit {0}
IsSettledFor crew worker entry.Finish = Unit {0}

-- wherever they stood they stand again
unfoldable pub StandStill : List WorkerState → List WorkerState → Type 0
StandStill old new = (at : Stance) → AreRedoneAt at old → AreRedoneAt at new

-- nothing has changed but batches on their way, and the sender of the entry's batch has passed on what it has made
pub record PassesFor (worker : ℕ) (one : Entry) (old new : List WorkerState) : Type 0 where
  pub still : StandStill old new
  pub aside : AreSameBesides old new
  pub long : length new ≡ length old
  pub settled : IsSettledFor new worker one

-- ---- a part

-- what a part says of a worker at whose operator a count is in force or not, and the most steps
pub record PartOf : Type 0 where
  pub worker : ℕ
  pub entries : List Entry
  pub counted : Bool
  pub most : ℕ

abbrev pub lines_behind : List Entry → List Line
lines_behind entries = map line.Entry entries

-- they stand there, and the part comes next, before which nothing is in hand
pub record StandBeforePart (at : Stance) (part : PartOf) (crew : List WorkerState) : Type 0 where
  pub stand : AreRedoneAt at crew
  pub counted : is_counted at.query at.start part.worker ≡ part.counted
  pub empty : (at.positions part.worker).restraint.hand ≡ 0
  pub most : at.query.most ≡ part.most

-- they stand somewhere so
abbrev pub ComesNext : PartOf → List WorkerState → Type 0
ComesNext part crew = (at : Stance) × StandBeforePart at part crew

-- the lines of the part are judged well, and lead to these positions
pub record PartLeadsTo (at : Stance) (part : PartOf) (later : ℕ → Position) : Type 0 where
  pub good : (to_end : Bool) → judge_all at.query (Within to_end (state_in at) part.worker) (lines_behind part.entries)
      ≡ Some (Within to_end (state_in (stand_later at later)) part.worker)
  pub others : (other : ℕ) → other ≢ part.worker → later other ≡ at.positions other

-- wherever they stood, the part was done, with this in hand then
pub record MakesPart (part : PartOf) (old new : List WorkerState) (hand : ℕ) : Type 0 where
  pub makes : (at : Stance) → StandBeforePart at part old
      → (later : ℕ → Position) × AreRedoneAt (stand_later at later) new × PartLeadsTo at part later × ((later part.worker).restraint.hand ≡ hand)
  pub alone : WritesAlone part.worker part.entries old new

-- wherever they stood, the line at this place is the first of the part that could not stand there
unfoldable pub FailsPart : PartOf → List WorkerState → ℕ → Type 0
FailsPart part old place = (at : Stance) (to_end : Bool) → StandBeforePart at part old
    → bad_line_from at.query (Within to_end (state_in at) part.worker) 0 (lines_behind part.entries) ≡ Some place

-- the part was done, or fails at this place
abbrev pub MakesPartOrNot : PartOf → List WorkerState → List WorkerState → PartRedone → Type 0
MakesPartOrNot part old new (part_redone.Done hand) = MakesPart part old new hand
MakesPartOrNot part old new (part_redone.Illegal place) = FailsPart part old place

-- ---- at the end

-- a worker that has taken a seat with nothing in hand, and has given it back
abbrev pub emptied : WorkerState → WorkerState
emptied w = record (with_hand 0 w) { seat = None; reserved = false }

-- nobody has a seat
abbrev pub HaveNoSeats : List WorkerState → Type 0
HaveNoSeats crew = (worker : ℕ) → (worker_state_at crew worker).seat ≡ None

-- a seat of a board that has counted nothing, with nothing in hand
pub record IsBareSeat (board : Board) (seat : WorkSeat) : Type 0 where
  pub own : IsSeatOf board seat
  pub none : (work_view seat).mine ≡ 0
  pub empty : (work_view seat).hand ≡ 0
