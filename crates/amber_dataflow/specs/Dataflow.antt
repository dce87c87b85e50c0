-- The workers of a run with the workflow that they carry out: what is read of them, where they stand, and what a step does.
use Rattle.std.specs.Prelude.{◌≡◌, ◌≢◌, ◌⊎◌, ℕ, ◌+◌, ◌==◌, ◌^◌, ◌<◌, ◌≤◌, List, [], ◌∷◌, ◌++◌, length, map, slice_set, Option, None, is_some, Bool, true, false, if◌then◌else◌}
use Rattle.std.specs.List.{list_all}
use Rattle.amber_rows.specs.Topology.{crew_of, op_of, workers_of}
use Rattle.amber_rows.specs.FlowRules.{IsFlow}
use Rattle.amber_rows.specs.declared.flow.Operator.{Operator}
use Rattle.amber_rows.specs.declared.value.Value.{Value}
use Rattle.amber_rows.specs.declared.cond.Cond.{Cond}
use Rattle.amber_log.specs.declared.entry.Entry.{Entry}
use Rattle.amber_log.specs.declared.entry.Entry.TheVariants as entry
use Rattle.amber_log.specs.declared.leg.Part.{Part}
use Rattle.amber_meaning.specs.Legal.{Query}
use Rattle.amber_meaning.specs.Position.{Position}
use Rattle.amber_meaning.specs.State.{State}
use Rattle.amber_meaning.specs.Views.{answer_in, inspected_of}
use Rattle.amber_meaning.specs.declared.answer.Answer.{Answer}
use Rattle.amber_meaning.specs.declared.view.WorkerView.{WorkerView}
use Rattle.amber_board.specs.declared.types.WorkSeat.{WorkSeat}
use Rattle.amber_worker.specs.Changes.{armed_at, at_leg_start, disarmed_at, held_dropped, resumed_at, row_held}
use Rattle.amber_operators.specs.States.{with_value}
use Rattle.amber_worker.specs.Counting.{IsSameSeat}
use Rattle.amber_worker.specs.Turning.{WritesStep}
use Rattle.amber_worker.specs.WorkerState.{WorkerState, needs_unit}
use Rattle.amber_dataflow.specs.Passing.{AreSameBesides}
use Rattle.amber_dataflow.specs.AtWork.{AreAtWork, AreJoinedAt, WritesHolds, emitted_at, is_counted, state_reached, steps_by, units_at, worker_state_at}
use Rattle.amber_dataflow.specs.Parts.{parts_from, without_journal}

pub record DataflowState : Type 0 where
  pub flow : List Operator
  -- by their numbers; none where memory ran out among them, or once they gave their answer away
  pub workers : List WorkerState

-- ---- what is read of them

-- each worker of the workflow
abbrev pub AreAllThere : DataflowState → Type 0
AreAllThere d = length d.workers ≡ crew_of d.flow

-- the steps that they have made together
unfoldable pub step_count : DataflowState → ℕ
step_count d = steps_by d.workers

-- the rows that an operator has emitted
unfoldable pub rows_emitted : DataflowState → ℕ → ℕ
rows_emitted d op = emitted_at d.workers (workers_of d.flow op)

unfoldable pub has_finished : DataflowState → ℕ → Bool
has_finished d worker = (worker_state_at d.workers worker).finished

unfoldable pub have_all_finished : DataflowState → Bool
have_all_finished d = list_all (λ w. w.finished) d.workers

-- a worker is held before its next row, and is paused
unfoldable pub is_held : DataflowState → ℕ → Bool
is_held d worker = (worker_state_at d.workers worker).restraint.held

unfoldable pub is_paused : DataflowState → ℕ → Bool
is_paused d worker = (worker_state_at d.workers worker).restraint.paused

-- the seat of a worker, where a count is armed at it
unfoldable pub seat_of : DataflowState → ℕ → Option WorkSeat
seat_of d worker = (worker_state_at d.workers worker).seat

-- whether one is
abbrev pub is_armed_at : DataflowState → ℕ → Bool
is_armed_at d worker = is_some (seat_of d worker)

-- the units in its hand
unfoldable pub hand_of : DataflowState → ℕ → ℕ
hand_of d worker = (worker_state_at d.workers worker).restraint.hand

-- it needs a unit for its next row, and has none in hand
unfoldable pub is_short : DataflowState → ℕ → Bool
is_short d worker = needs_unit (worker_state_at d.workers worker)

-- for how many turns it was driven since its leg began
unfoldable pub turned_of : DataflowState → ℕ → ℕ
turned_of d worker = (worker_state_at d.workers worker).turned

-- room for an entry is kept in its journal
unfoldable pub has_room : DataflowState → ℕ → Bool
has_room d worker = (worker_state_at d.workers worker).reserved

-- the units that an operator's workers have counted
unfoldable pub units_counted : DataflowState → ℕ → ℕ
units_counted d op = units_at d.workers (workers_of d.flow op)

-- what a worker has done since its journal was handed out
unfoldable pub journal_of : DataflowState → ℕ → List Entry
journal_of d worker = (worker_state_at d.workers worker).journal

-- what all have done, as the parts of a leg
unfoldable pub leg_parts : DataflowState → List Part
leg_parts d = parts_from 0 d.workers

-- so many have finished, the first ones
abbrev pub FirstHaveFinished : ℕ → DataflowState → Type 0
FirstHaveFinished count d = (worker : ℕ) → worker < count → has_finished d worker ≡ true

-- nobody has done anything since the journals were handed out
abbrev pub HaveDoneNothing : DataflowState → Type 0
HaveDoneNothing d = (worker : ℕ) → journal_of d worker ≡ []

-- ---- what calls change

-- a worker begins a leg: pauses end, a held row may go, and nothing was done since; to the end no condition is in force any more
abbrev pub worker_begun : Bool → WorkerState → WorkerState
worker_begun to_end w = if to_end then record (at_leg_start w) { when = None } else at_leg_start w

-- each does
abbrev pub leg_begun : Bool → DataflowState → DataflowState
leg_begun to_end d = record d { workers = map (worker_begun to_end) d.workers }

-- the journals were handed out
abbrev pub handed_out : DataflowState → DataflowState
handed_out d = record d { workers = map without_journal d.workers }

-- a worker, with another constant where it is one of this operator
abbrev pub worker_set : ℕ → Value → WorkerState → WorkerState
worker_set op value w = if w.op == op then record w { operator_state = with_value value w.operator_state } else w

-- another constant at an operator
abbrev pub constant_put : ℕ → Value → DataflowState → DataflowState
constant_put op value d = record d { workers = map (worker_set op value) d.workers }

-- a worker, with another condition where it is one of this operator
abbrev pub worker_watching : ℕ → Option Cond → WorkerState → WorkerState
worker_watching op when w = if w.op == op then record w { when = when } else w

-- another condition at an operator, or none
abbrev pub when_put : ℕ → Option Cond → DataflowState → DataflowState
when_put op when d = record d { workers = map (worker_watching op when) d.workers }

-- the row before which a worker is held, if it is
unfoldable pub row_held_at : DataflowState → ℕ → Option (List Value)
row_held_at d worker = row_held (worker_state_at d.workers worker)

-- who is held stands before a row
abbrev pub AreHeldByRows : DataflowState → Type 0
AreHeldByRows d = (worker : ℕ) → is_held d worker ≡ true → is_some (row_held_at d worker) ≡ true

-- that row was dropped
abbrev pub row_dropped : ℕ → DataflowState → DataflowState
row_dropped worker d = record d { workers = slice_set d.workers worker (held_dropped (worker_state_at d.workers worker)) }

-- room is kept in a worker's journal
abbrev pub room_kept : ℕ → DataflowState → DataflowState
room_kept worker d = record d { workers = slice_set d.workers worker (record (worker_state_at d.workers worker) { reserved = true }) }

-- a worker has this seat
abbrev pub worker_armed : ℕ → WorkSeat → DataflowState → DataflowState
worker_armed worker seat d = record d { workers = slice_set d.workers worker (armed_at seat (worker_state_at d.workers worker)) }

-- it has none, and has given back the units that were in its hand
abbrev pub worker_disarmed : ℕ → DataflowState → DataflowState
worker_disarmed worker d = record d { workers = slice_set d.workers worker (disarmed_at (worker_state_at d.workers worker)) }

-- a worker that was paused goes on
abbrev pub worker_resumed : WorkerState → WorkerState
worker_resumed w = if w.restraint.paused then resumed_at w else w

abbrev pub all_resumed : DataflowState → DataflowState
all_resumed d = record d { workers = map worker_resumed d.workers }

-- nobody is left
abbrev pub without_workers : DataflowState → DataflowState
without_workers d = record d { workers = [] }

-- ---- where they stand

-- the workers of a query stand at these positions, in a leg that began in this state: each one's journal leads there from where it
-- stood then, and all that they made is in the inboxes
pub record StandAt (query : Query) (start : State) (d : DataflowState) (positions : ℕ → Position) : Type 0 where
  pub flow : d.flow ≡ query.flow
  pub work : AreAtWork query start d.workers positions

-- so they do of some query, where they are there, and have made few steps
pub record IsDataflow (d : DataflowState) : Type 0 where
  pub flow : IsFlow d.flow
  pub few : step_count d ≤ 2 ^ 40
  pub stand : AreAllThere d → (query : Query) × (start : State) × (positions : ℕ → Position) × StandAt query start d positions

-- workers of this workflow stand somewhere, joined by their links
abbrev pub AreCrewOf : List Operator → List WorkerState → Type 0
AreCrewOf flow crew = (query : Query) × (start : State) × (positions : ℕ → Position) × (query.flow ≡ flow) × AreJoinedAt query start crew positions

-- such workers are here again: they stand where they stood, all that they made is in the inboxes, and nothing else has changed
pub record AreBack (crew : List WorkerState) (d : DataflowState) : Type 0 where
  pub there : AreAllThere d
  pub stand : (query : Query) (start : State) (positions : ℕ → Position) → query.flow ≡ d.flow → AreJoinedAt query start crew positions
      → StandAt query start d positions
  pub same : AreSameBesides crew d.workers

-- in a leg that began in this state workers are armed just where a count is in force
abbrev pub AreArmedIn : Query → State → DataflowState → Type 0
AreArmedIn query start d = (worker : ℕ) → worker < crew_of query.flow → is_counted query start worker ≡ is_armed_at d worker

-- there is such a leg
abbrev pub AreInArmedLeg : DataflowState → Type 0
AreInArmedLeg d = (query : Query) × (start : State) × (positions : ℕ → Position) × StandAt query start d positions × AreArmedIn query start d

-- there is a leg in which a count is in force at this worker's operator, or one in which none is
abbrev pub StandsUnder : Bool → DataflowState → ℕ → Type 0
StandsUnder counted d worker =
    (query : Query) × (start : State) × (positions : ℕ → Position) × StandAt query start d positions × (is_counted query start worker ≡ counted)

-- wherever they stood in such a leg they stand again, and only this worker has moved
unfoldable pub MovesUnder : Bool → DataflowState → DataflowState → ℕ → Type 0
MovesUnder counted old new worker = (query : Query) (start : State) (positions : ℕ → Position) → StandAt query start old positions → is_counted query start worker ≡ counted
    → (later : ℕ → Position) × StandAt query start new later × ((other : ℕ) → other ≢ worker → later other ≡ positions other)

-- wherever they stood, armed as counts were in force, they stand again, in the same leg
unfoldable pub StandAgain : DataflowState → DataflowState → Type 0
StandAgain old new = (query : Query) (start : State) (positions : ℕ → Position) → StandAt query start old positions → AreArmedIn query start old
    → (later : ℕ → Position) × StandAt query start new later

-- ---- turns

-- a worker has done nothing
pub record IsUnmoved (old new : DataflowState) (worker : ℕ) : Type 0 where
  pub finished : has_finished new worker ≡ has_finished old worker
  pub journal : journal_of new worker ≡ journal_of old worker
  pub seat : seat_of new worker ≡ seat_of old worker
  pub room : has_room new worker ≡ has_room old worker

-- a worker has made turns, so many or fewer, what it has written tells of steps and holds alone, and the others have done nothing
pub record TurnsAt (most : ℕ) (old new : DataflowState) (worker : ℕ) : Type 0 where
  pub flow : new.flow ≡ old.flow
  pub there : AreAllThere new
  pub on : MovesUnder (is_armed_at old worker) old new worker
  pub writes : WritesHolds (journal_of old worker) (journal_of new worker)
  pub others : (other : ℕ) → other ≢ worker → IsUnmoved old new other
  -- of the rows that operators have emitted at most so many more at its own
  pub rows : rows_emitted new (op_of old.flow worker) ≤ rows_emitted old (op_of old.flow worker) + most
  pub more : rows_emitted old (op_of old.flow worker) ≤ rows_emitted new (op_of old.flow worker)
  pub emitted : (op : ℕ) → op ≢ op_of old.flow worker → rows_emitted new op ≡ rows_emitted old op
  -- it keeps its seat, on which it has counted a unit for each row that it has emitted, and the room of its journal
  pub seat : IsSameSeat (seat_of old worker) (seat_of new worker)
  pub room : has_room new worker ≡ has_room old worker
  pub units : is_armed_at old worker ≡ true
      → units_counted new (op_of old.flow worker) + rows_emitted old (op_of old.flow worker)
      ≡ units_counted old (op_of old.flow worker) + rows_emitted new (op_of old.flow worker)
  pub counted : (op : ℕ) → op ≢ op_of old.flow worker → units_counted new op ≡ units_counted old op
  -- nobody was driven
  pub undriven : (other : ℕ) → turned_of new other ≡ turned_of old other

-- ---- a step

-- a worker has not finished, and all before it have
pub record IsFirst (d : DataflowState) (worker : ℕ) : Type 0 where
  pub there : worker < crew_of d.flow
  pub first : FirstHaveFinished worker d
  pub unfinished : has_finished d worker ≡ false

-- nobody is held or paused
pub record AreFree (d : DataflowState) : Type 0 where
  pub loose : (worker : ℕ) → is_held d worker ≡ false
  pub running : (worker : ℕ) → is_paused d worker ≡ false

-- a worker has made a step, which its journal has
pub record MadeStep (old new : DataflowState) (worker : ℕ) : Type 0 where
  pub one : step_count new ≡ step_count old + 1
  pub writes : WritesStep (journal_of old worker) (journal_of new worker)

-- a worker is held by its next row, which its journal says, and has made no step
pub record IsHeldNow (old new : DataflowState) (worker : ℕ) : Type 0 where
  pub none : step_count new ≡ step_count old
  pub held : is_held new worker ≡ true
  pub writes : journal_of new worker ≡ journal_of old worker ++ entry.Hold ∷ []

-- a worker has made a step, or is held, and the others have done nothing
pub record StepsAt (old new : DataflowState) (worker : ℕ) : Type 0 where
  pub turns : TurnsAt 1 old new worker
  pub does : MadeStep old new worker ⊎ IsHeldNow old new worker

-- ---- what they give

-- wherever they stand, once all have finished, this is the answer
unfoldable pub IsAnswerOf : DataflowState → Answer → Type 0
IsAnswerOf d answer = (query : Query) (start : State) (positions : ℕ → Position) → StandAt query start d positions → have_all_finished d ≡ true
    → answer ≡ answer_in query (state_reached query start positions)

-- wherever they stand, this is what each of an operator's workers shows
unfoldable pub ShowAt : DataflowState → ℕ → List WorkerView → Type 0
ShowAt d op views = (query : Query) (start : State) (positions : ℕ → Position) → StandAt query start d positions
    → views ≡ (inspected_of query (state_reached query start positions) op).workers
