-- Where workers stand, one by one, and who sends to whom.
use Rattle.std.specs.Prelude.{◌≡◌, ◌≢◌, ℕ, ◌+◌, ◌<◌, ◌≤◌, ◌==◌, List, [], ◌∷◌, ◌++◌, map, replicate, slice_index_or, length, sum_by, Bool, true}
use Rattle.std.specs.List.{list_any}
use Rattle.rtrb.specs.Ring.{known_items, received, sent}
use Rattle.amber_rows.specs.Topology.{crew_of, senders_of}
use Rattle.amber_rows.specs.Lists.{numbers_below}
use Rattle.amber_rows.specs.FlowRules.{IsFlow}
use Rattle.amber_rows.specs.declared.flow.Operator.{Operator}
use Rattle.amber_log.specs.declared.entry.Entry.{Entry}
use Rattle.amber_log.specs.declared.entry.Entry.TheVariants as entry
use Rattle.amber_link.specs.declared.downstreams.Downstream.{Downstream}
use Rattle.amber_link.specs.declared.upstreams.Upstream.{Upstream}
use Rattle.amber_lines.specs.Moving.{orders_in}
use Rattle.amber_meaning.specs.Legal.{Query}
use Rattle.amber_meaning.specs.Position.{Position}
use Rattle.amber_meaning.specs.State.{State, position_at}
use Rattle.amber_worker.specs.AtPosition.{Base, Context, IsAtPosition, KeepsUnder, Placement, placement_of}
use Rattle.amber_worker.specs.Counting.{IsSameSeat, mine_in}
use Rattle.amber_worker.specs.Pairs.{AreJoined, AreSettledAt, IsLinkAt}
use Rattle.amber_worker.specs.Turning.{WritesStep, other_entries}
use Rattle.amber_worker.specs.WorkerState.{WorkerState, empty_worker_state, is_armed, steps_made}

-- ---- one of the workers

-- a worker that is not there
abbrev pub no_worker_state : WorkerState
no_worker_state = empty_worker_state

-- the worker with this number
abbrev pub worker_state_at : List WorkerState → ℕ → WorkerState
worker_state_at crew worker = slice_index_or crew worker no_worker_state

-- the place of a query's worker
abbrev pub placement_at : Query → ℕ → Placement
placement_at query worker = placement_of query.flow query.records query.batch_size worker

-- its place under the orders that are in force in a state, over what went through the earlier links of each worker
abbrev pub context_in : (ℕ → Base) → Query → State → ℕ → Context
context_in bases query state worker = record { placement = placement_at query worker; orders = orders_in query state worker; base = bases worker }

-- ---- their links

-- a worker sends to another
abbrev pub SendsTo : List Operator → ℕ → ℕ → Type 0
SendsTo flow from to = (to < crew_of flow) × (list_any (λ one. one == from) (senders_of flow to) ≡ true)

-- all that the one has sent to the other has come there, though more may wait to be sent
pub record AllHasCome (from to : WorkerState) : Type 0 where
  pub j : ℕ
  pub k : ℕ
  pub places : IsLinkAt from to j k
  pub out : Downstream
  pub into : Upstream
  pub out_is : (one : Downstream) → slice_index_or from.outs j one ≡ out
  pub into_is : (one : Upstream) → slice_index_or to.ins k one ≡ into
  pub come : received into.link.ring ≡ sent out.link.ring
  pub known : known_items into.link.ring ≡ []

-- ---- all of them

-- each worker stands at its position, with a journal that leads there from where it stood in the state in which the leg began; what went
-- through an earlier link the one had sent and the other had got
pub record AreAtPositions (query : Query) (start : State) (crew : List WorkerState) (positions : ℕ → Position) : Type 0 where
  pub bases : ℕ → Base
  pub earlier : (from to : ℕ) → (bases from).gave to ≡ (bases to).had from
  pub all : length crew ≡ crew_of query.flow
  pub each : (worker : ℕ) → worker < crew_of query.flow
      → IsAtPosition (context_in bases query start worker) (worker_state_at crew worker) (position_at start.positions worker) (positions worker)

-- the workers of a workflow stand somewhere, and who sends to whom hold the two ends of a link
pub record AreJoinedAt (query : Query) (start : State) (crew : List WorkerState) (positions : ℕ → Position) : Type 0 where
  pub flow : IsFlow query.flow
  pub at_positions : AreAtPositions query start crew positions
  pub joined : (from to : ℕ) → from < crew_of query.flow → to < crew_of query.flow → AreJoined (worker_state_at crew from) (worker_state_at crew to)

-- and all that they made is in the inboxes
pub record AreAtWork (query : Query) (start : State) (crew : List WorkerState) (positions : ℕ → Position) : Type 0 where
  pub at : AreJoinedAt query start crew positions
  pub settled : (from to : ℕ) → SendsTo query.flow from to → AreSettledAt (worker_state_at crew from) (worker_state_at crew to)

-- the workers of some workflow stand somewhere
abbrev pub IsJoinedCrew : List WorkerState → Type 0
IsJoinedCrew crew = (query : Query) × (start : State) × (positions : ℕ → Position) × AreJoinedAt query start crew positions

-- whether a count is in force at a worker's operator in a leg that began in this state
abbrev pub is_counted : Query → State → ℕ → Bool
is_counted query start worker = (orders_in query start worker).counted

-- the workers of some workflow are at work in a leg in which a count is in force at the operator of this worker, or none is
abbrev pub IsCrewUnder : Bool → ℕ → List WorkerState → Type 0
IsCrewUnder counted worker crew =
    (query : Query) × (start : State) × (positions : ℕ → Position) × AreAtWork query start crew positions × (is_counted query start worker ≡ counted)

-- the workers of some workflow are at work
abbrev pub IsCrew : List WorkerState → Type 0
IsCrew crew = (query : Query) × (start : State) × (positions : ℕ → Position) × AreAtWork query start crew positions

-- ---- what they do

-- wherever a worker stood it stands again, armed or not as it was
abbrev pub KeepsPosition : WorkerState → WorkerState → Type 0
KeepsPosition old new = KeepsUnder (is_armed old) old new

-- of whatever workflow they are the workers, they still are, and stand where they stood
unfoldable pub StayPut : List WorkerState → List WorkerState → Type 0
StayPut old new = (query : Query) (start : State) (positions : ℕ → Position) → AreJoinedAt query start old positions → AreJoinedAt query start new positions

-- one of them has moved on, armed or not as a count is in force there, and the others stand where they stood
unfoldable pub GoesOn : List WorkerState → List WorkerState → ℕ → Type 0
GoesOn old new worker = (query : Query) (start : State) (positions : ℕ → Position) → AreAtWork query start old positions
    → is_counted query start worker ≡ is_armed (worker_state_at old worker)
    → (later : ℕ → Position) × AreAtWork query start new later × ((other : ℕ) → other ≢ worker → later other ≡ positions other)

-- a worker has perhaps other batches at the ends of its links, and is as it was but for that
abbrev pub IsSameBesides : WorkerState → WorkerState → Type 0
IsSameBesides old new = new ≡ record old { ins = new.ins; outs = new.outs }

-- none but this worker has done anything
abbrev pub MovesOnly : List WorkerState → List WorkerState → ℕ → Type 0
MovesOnly old new worker = (other : ℕ) → other ≢ worker → IsSameBesides (worker_state_at old other) (worker_state_at new other)

-- beside entries that tell of steps these have been written, each of which says that a row holds the worker
abbrev pub WritesHolds : List Entry → List Entry → Type 0
WritesHolds old new = (holds : ℕ) × (other_entries new ≡ other_entries old ++ replicate holds entry.Hold)

-- a worker has made turns, so many or fewer, of which its journal tells, and the others have done nothing
pub record MakesTurnsAt (most : ℕ) (old new : List WorkerState) (worker : ℕ) : Type 0 where
  pub on : GoesOn old new worker
  pub only : MovesOnly old new worker
  pub rows : (worker_state_at new worker).emitted ≤ (worker_state_at old worker).emitted + most
  pub more : (worker_state_at old worker).emitted ≤ (worker_state_at new worker).emitted
  pub writes : WritesHolds (worker_state_at old worker).journal (worker_state_at new worker).journal
  -- it keeps its seat, on which it has counted a unit for each row that it has emitted, and the room of its journal
  pub seat : IsSameSeat (worker_state_at old worker).seat (worker_state_at new worker).seat
  pub mine : is_armed (worker_state_at old worker) ≡ true
      → mine_in (worker_state_at new worker).seat + (worker_state_at old worker).emitted ≡ mine_in (worker_state_at old worker).seat + (worker_state_at new worker).emitted
  pub reserved : (worker_state_at new worker).reserved ≡ (worker_state_at old worker).reserved
  -- it was not driven
  pub undriven : (worker_state_at new worker).turned ≡ (worker_state_at old worker).turned

-- for how many turns each of them was driven since its leg began
abbrev pub turned_by : List WorkerState → List ℕ
turned_by crew = map (λ w. w.turned) crew

-- the rows that these of them have emitted
abbrev pub emitted_at : List WorkerState → List ℕ → ℕ
emitted_at crew workers = sum_by (λ worker. (worker_state_at crew worker).emitted) workers

-- the units that they have counted
abbrev pub units_at : List WorkerState → List ℕ → ℕ
units_at crew workers = sum_by (λ worker. mine_in (worker_state_at crew worker).seat) workers

-- the steps that they have made together
unfoldable pub steps_by : List WorkerState → ℕ
steps_by crew = sum_by steps_made crew

-- a worker has made a step, which its journal has
pub record MakesStepAt (old new : List WorkerState) (worker : ℕ) : Type 0 where
  pub one : steps_by new ≡ steps_by old + 1
  pub writes : WritesStep (worker_state_at old worker).journal (worker_state_at new worker).journal

-- a worker is held by its next row, which its journal says, and has made no step
pub record IsHeldAt (old new : List WorkerState) (worker : ℕ) : Type 0 where
  pub none : steps_by new ≡ steps_by old
  pub held : (worker_state_at new worker).restraint.held ≡ true
  pub writes : (worker_state_at new worker).journal ≡ (worker_state_at old worker).journal ++ entry.Hold ∷ []

-- the first workers have finished
abbrev pub HaveFinished : ℕ → List WorkerState → Type 0
HaveFinished workers crew = (worker : ℕ) → worker < workers → (worker_state_at crew worker).finished ≡ true

-- ---- the state

-- the state of workers at these positions, with what was in force in another
abbrev pub state_reached : Query → State → (ℕ → Position) → State
state_reached query start positions = record start { positions = map positions (numbers_below (crew_of query.flow)) }
