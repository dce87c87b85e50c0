-- Which logs a run may write, and the state that each leads to.
use Rattle.std.specs.Prelude.{◌≡◌, ◌≢◌, ℕ, ◌==◌, ◌<◌, ◌≤◌, List, [], ◌∷◌, length, filter, not, Some, Result, Bool, true, false, if◌then◌else◌}
use Rattle.std.specs.List.{flat_map, list_all, list_any}
use Rattle.amber_rows.specs.Lists.{IsPrefix}
use Rattle.amber_rows.specs.Chunks.{chunks_of}
use Rattle.amber_rows.specs.Topology.{crew_of, op_of, receiver_of}
use Rattle.amber_rows.specs.declared.value.Value.{Value}
use Rattle.amber_rows.specs.declared.batch.Batch.{Batch}
use Rattle.amber_rows.specs.declared.record.RowFault.{RowFault}
use Rattle.amber_rows.specs.declared.flow.Operator.{Operator}
use Rattle.amber_log.specs.Commands.{action_of}
use Rattle.amber_log.specs.Fits.{fits_of}
use Rattle.amber_log.specs.Grammar.{AreParts, IsLog, ends_over}
use Rattle.amber_log.specs.declared.effect.Action.{Action}
use Rattle.amber_log.specs.declared.effect.Action.TheVariants as action
use Rattle.amber_log.specs.declared.entry.Entry.{Entry}
use Rattle.amber_log.specs.declared.leg.Close.{Close}
use Rattle.amber_log.specs.declared.leg.Close.TheVariants as close
use Rattle.amber_log.specs.declared.leg.Part.{Part}
use Rattle.amber_log.specs.declared.log.Item.{Item}
use Rattle.amber_log.specs.declared.log.Item.TheVariants as item
use Rattle.amber_log.specs.declared.log.Log.{Log}
use Rattle.amber_meaning.specs.declared.view.Stop.{Stop}
use Rattle.amber_meaning.specs.Plain.{records_of}
use Rattle.amber_meaning.specs.Plan.{role_of}
use Rattle.amber_meaning.specs.Position.{Position, emitted_rows, taken_from}
use Rattle.amber_meaning.specs.Rules.{Assignment, Leads, assigned}
use Rattle.amber_meaning.specs.State.{Counting, State, arms_at, begin_leg, begin_last_leg, after_command, counted_at, have_finished, orders_of, position_at, start_of, steps_in}
use Rattle.amber_meaning.specs.Stops.{stops_of, without_stops}
use Rattle.amber_meaning.specs.Task.{Role}

-- what a query is run with: its workflow, the typed records of its scans by operator, the rows of a batch, and the most steps
pub record Query : Type 0 where
  pub flow : List Operator
  pub records : List (List (Result (List Value) RowFault))
  pub batch_size : ℕ
  pub most : ℕ

-- a query over the files of the scans, in their order
abbrev pub query_over : List Operator → List (List ℕ) → ℕ → ℕ → Query
query_over flow files batch_size most = record { flow = flow; records = records_of files flow; batch_size = batch_size; most = most }

abbrev pub role_in : Query → ℕ → Role
role_in query worker = role_of query.flow query.records worker

-- what a worker does in a leg that began in this state, and its orders there
abbrev pub assignment_in : Query → State → ℕ → Assignment
assignment_in query start worker = assigned (role_in query worker) (orders_of (arms_at start (op_of query.flow worker)))

-- ---- links

-- the rows that a worker has emitted and that go to this receiver
unfoldable pub stream_of : Query → List Position → ℕ → ℕ → List (List Value)
stream_of query positions sender receiver =
    filter (λ row. receiver_of query.flow sender row == receiver) (emitted_rows (role_in query sender) (position_at positions sender))

-- the batches that a worker has made for a receiver
unfoldable pub batches_for : Query → List Position → ℕ → ℕ → List Batch
batches_for query positions sender receiver =
    chunks_of query.batch_size (stream_of query positions sender receiver) (position_at positions sender).finished

-- what each worker took of each sender are the first batches that the sender has made for it
unfoldable pub AreOffered : Query → List Position → Type 0
AreOffered query positions = (receiver : ℕ) → receiver < crew_of query.flow → (sender : ℕ)
    → list_any (λ one. one == sender) (role_in query receiver).senders ≡ true
    → IsPrefix (taken_from (position_at positions receiver).taken sender) (batches_for query positions sender receiver)

-- ---- a leg

-- the entries of a worker
unfoldable pub entries_of : List Part → ℕ → List Entry
entries_of parts worker = flat_map (λ part. part.entries) (filter (λ part. part.worker == worker) parts)

-- each part is one of a worker of the workflow
abbrev pub AreKnown : Query → List Part → Type 0
AreKnown query parts = (worker : ℕ) → list_any (λ part. part.worker == worker) parts ≡ true → worker < crew_of query.flow

-- what the workers did leads each from where it stood, and nobody took what was not made by the end of the leg
pub record IsWorked (query : Query) (before : State) (parts : List Part) (after : State) : Type 0 where
  pub same_arms : after.arms ≡ before.arms
  pub crew : length after.positions ≡ crew_of query.flow
  pub known : AreKnown query parts
  pub moved : (worker : ℕ) → worker < crew_of query.flow
      → Leads (assignment_in query before worker) (position_at before.positions worker) (entries_of parts worker) (position_at after.positions worker)
  pub offered : AreOffered query after.positions

-- no hand holds a unit, and no count has counted more than it asks for
pub record IsSettled (query : Query) (state : State) : Type 0 where
  pub hands : (worker : ℕ) → worker < crew_of query.flow → (position_at state.positions worker).restraint.hand ≡ 0
  pub counts : (op : ℕ) (counting : Counting) → (arms_at state op).count ≡ Some counting → counted_at query.flow state op counting ≤ counting.target

abbrev pub stops_in : Query → State → List Stop
stops_in query state = stops_of query.flow (role_in query) state

-- how a leg up to a stop may be closed, and one up to the end
abbrev pub ClosesRun : Query → State → Close → Type 0
ClosesRun query state close.Cut = IsSettled query state × (steps_in state ≤ query.most) × (stops_in query state ≢ [])
ClosesRun query state close.Long = IsSettled query state × (steps_in state ≡ query.most) × (stops_in query state ≡ [])

abbrev pub ClosesEnd : Query → State → Close → Type 0
ClosesEnd query state close.Cut = IsSettled query state × (steps_in state ≤ query.most) × (have_finished state ≡ true)
ClosesEnd query state close.Long = IsSettled query state × (steps_in state ≡ query.most) × (have_finished state ≡ false)

-- the state that a closed leg up to a stop leaves
abbrev pub after_close : Query → State → Close → State
after_close query state close.Cut = without_stops query.flow state
after_close query state close.Long = state

-- ---- items and logs

-- an item leads from one state to another
abbrev pub Makes : Query → State → Item → State → Type 0
Makes query state (item.Do command) after = (fits_of query.flow command ≡ true) × (after ≡ after_command query.flow command state)
Makes query state (item.Run leg) after = (reached : State) × IsWorked query (begin_leg state) leg.parts reached × ClosesRun query reached leg.close × (after ≡ after_close query reached leg.close)
Makes query state (item.End leg) after = (reached : State) × IsWorked query (begin_last_leg state) leg.parts reached × ClosesEnd query reached leg.close × (after ≡ reached)

-- items lead from one state to another, one after the other
unfoldable pub Reaches : Query → State → List Item → State → Type 0
Reaches query state [] after = state ≡ after
Reaches query state (one ∷ more) after = (m : State) × Makes query state one m × Reaches query m more after

-- ---- whole logs

-- a legal log: it has a text, its batches are the query's, and its items lead from the start to a state
pub record IsLegal (query : Query) (log : Log) : Type 0 where
  pub text : IsLog log
  pub batch : log.batch ≡ query.batch_size
  pub after : State
  pub reached : Reaches query (start_of query.flow) log.items after

-- the state in which a leg begins, up to a stop or to the end
abbrev pub leg_start : Bool → State → State
leg_start to_end state = if to_end then begin_last_leg state else begin_leg state

-- a legal log that more may follow, and after it a leg that is not closed yet, with what the workers did so far
pub record IsOpen (query : Query) (log : Log) (to_end : Bool) (parts : List Part) : Type 0 where
  pub legal : IsLegal query log
  pub more : ends_over false log.items ≡ false
  pub text : AreParts 0 parts
  pub now : State
  pub worked : IsWorked query (leg_start to_end legal.after) parts now
  pub few : steps_in now ≤ query.most

-- whether it changes what comes out: a filter's constant, or a row that is dropped
abbrev pub action_alters : Action → Bool
action_alters (action.Leg to_end) = false
action_alters (action.AtRest effect) = effect.alters

-- so does an item
abbrev pub alters : Item → Bool
alters (item.Do command) = action_alters (action_of command)
alters (item.Run leg) = false
alters (item.End leg) = false

-- no item sets a constant or drops a row, not even one that finds nothing to change
abbrev pub IsUnaltered : List Item → Type 0
IsUnaltered items = list_all (λ one. not (alters one)) items ≡ true
