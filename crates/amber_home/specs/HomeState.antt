-- What a home keeps, and what its calls change.
use Rattle.std.specs.Prelude.{◌≡◌, ◌≢◌, ◌⊎◌, ℕ, suc, ◌+◌, ◌-◌, ◌^◌, ◌<◌, ◌||◌, min, List, [], ◌∷◌, ◌++◌, Option, None, Some, Bool, true, false, if◌then◌else◌}
use Rattle.amber_rows.specs.Topology.{crew_of, op_of}
use Rattle.amber_rows.specs.declared.flow.Operator.{Operator}
use Rattle.amber_rows.specs.declared.value.Value.{Value}
use Rattle.amber_lines.specs.KeptStops.{kept_stops}
use Rattle.amber_log.specs.declared.command.Command.{Command}
use Rattle.amber_log.specs.Commands.{action_of}
use Rattle.amber_log.specs.declared.effect.Action.{Action}
use Rattle.amber_log.specs.declared.effect.Action.TheVariants.{Leg, AtRest}
use Rattle.amber_log.specs.declared.entry.Entry.{Entry}
use Rattle.amber_log.specs.declared.entry.Entry.TheVariants as entry
use Rattle.amber_log.specs.declared.leg.Close.{Close}
use Rattle.amber_log.specs.declared.leg.Close.TheVariants as close
use Rattle.amber_log.specs.declared.leg.Part.{Part}
use Rattle.amber_log.specs.declared.log.Item.{Item}
use Rattle.amber_log.specs.declared.log.Item.TheVariants as item
use Rattle.amber_log.specs.declared.log.Log.{Log}
use Rattle.amber_meaning.specs.declared.view.Stop.{Stop}
use Rattle.amber_meaning.specs.Legal.{ClosesEnd, ClosesRun, IsSettled, IsWorked, Query, entries_of, leg_start, query_over, role_in, stops_in}
use Rattle.amber_meaning.specs.Position.{Position, pending_rows, rest_of}
use Rattle.amber_meaning.specs.Replay.{after_leg, state_after}
use Rattle.amber_meaning.specs.State.{Counting, State, arms_at, counted_at, emitted_by, have_finished, position_at, steps_in, worker_at}
use Rattle.amber_meaning.specs.Transcript.{held_row}
use Rattle.amber_worker.specs.Turning.{WritesStep}
use Rattle.amber_link.specs.Links.{has_some}
use Rattle.amber_worker.specs.Counting.{with_back}
use Rattle.amber_home.specs.declared.phase.Counts.{Counts}
use Rattle.amber_home.specs.declared.phase.Counts.TheVariants.{Armed, Disarmed, Unarmed}
use Rattle.amber_home.specs.declared.phase.Phase.{Phase}
use Rattle.amber_home.specs.declared.phase.Phase.TheVariants as phase

pub record HomeState : Type 0 where
  pub flow : List Operator
  -- the scans' files
  pub files : List (List ℕ)
  -- the most steps
  pub most : ℕ
  pub log : Log
  pub phase : Phase
  -- what the workers have done in the leg that is open
  pub parts : List Part
  -- for how many steps `home_step` was called since a leg was last opened
  pub alone : ℕ
  -- for how many turns each worker was driven in the leg that was opened last, by their numbers; none while they are away
  pub turned : List ℕ

-- what is run
abbrev pub query_of : HomeState → Query
query_of e = query_over e.flow e.files e.log.batch e.most

-- ---- phases

abbrev pub is_spent : Phase → Bool
is_spent phase.Resting = false
is_spent (phase.Open to_end counts) = false
is_spent (phase.Lent to_end) = false
is_spent (phase.Unsettled to_end) = false
is_spent (phase.Redoing to_end empty) = false
is_spent phase.Over = false
is_spent phase.Spent = true

-- the workers are there, and all that they made is in the inboxes
abbrev pub has_crew : Phase → Bool
has_crew phase.Resting = true
has_crew (phase.Open to_end counts) = true
has_crew (phase.Lent to_end) = false
has_crew (phase.Unsettled to_end) = false
has_crew (phase.Redoing to_end empty) = false
has_crew phase.Over = false
has_crew phase.Spent = false

-- a leg is open, and the workers are there
abbrev pub is_open : Phase → Bool
is_open phase.Resting = false
is_open (phase.Open to_end counts) = true
is_open (phase.Lent to_end) = false
is_open (phase.Unsettled to_end) = false
is_open (phase.Redoing to_end empty) = false
is_open phase.Over = false
is_open phase.Spent = false

-- the workers are away from a leg
abbrev pub is_lent : Phase → Bool
is_lent phase.Resting = false
is_lent (phase.Open to_end counts) = false
is_lent (phase.Lent to_end) = true
is_lent (phase.Unsettled to_end) = false
is_lent (phase.Redoing to_end empty) = false
is_lent phase.Over = false
is_lent phase.Spent = false

-- the workers of a leg are there, whether all that they made is in the inboxes or not
abbrev pub has_leg_crew : Phase → Bool
has_leg_crew phase.Resting = false
has_leg_crew (phase.Open to_end counts) = true
has_leg_crew (phase.Lent to_end) = false
has_leg_crew (phase.Unsettled to_end) = true
has_leg_crew (phase.Redoing to_end empty) = false
has_leg_crew phase.Over = false
has_leg_crew phase.Spent = false

-- it is within a leg that is one to the end
abbrev pub runs_to_end : Phase → Bool
runs_to_end phase.Resting = false
runs_to_end (phase.Open to_end counts) = to_end
runs_to_end (phase.Lent to_end) = to_end
runs_to_end (phase.Unsettled to_end) = to_end
runs_to_end (phase.Redoing to_end empty) = to_end
runs_to_end phase.Over = false
runs_to_end phase.Spent = false

-- how the counts of the leg stand
abbrev pub counts_in : Phase → Counts
counts_in phase.Resting = Unarmed
counts_in (phase.Open to_end counts) = counts
counts_in (phase.Lent to_end) = Armed
counts_in (phase.Unsettled to_end) = Armed
counts_in (phase.Redoing to_end empty) = Unarmed
counts_in phase.Over = Unarmed
counts_in phase.Spent = Unarmed

-- nothing is left of the leg that was open, nor of its workers
abbrev pub spent_at : HomeState → HomeState
spent_at e = record e { phase = phase.Spent; parts = []; turned = [] }

-- ---- where it stands

-- the state that the log leads to
abbrev pub rest_state : HomeState → State
rest_state e = state_after (query_of e) e.log.items

-- the state that a leg after the log comes to with these parts
abbrev pub leg_state : HomeState → Bool → List Part → State
leg_state e to_end parts = after_leg (query_of e) (leg_start to_end (rest_state e)) parts

-- the state in which the workers stand
abbrev pub state_at : Phase → HomeState → State
state_at phase.Resting e = rest_state e
state_at (phase.Open to_end counts) e = leg_state e to_end e.parts
state_at (phase.Lent to_end) e = rest_state e
state_at (phase.Unsettled to_end) e = leg_state e to_end e.parts
state_at (phase.Redoing to_end empty) e = leg_state e to_end e.parts
state_at phase.Over e = rest_state e
state_at phase.Spent e = rest_state e

unfoldable pub state_of : HomeState → State
state_of e = state_at e.phase e

-- the parts of the leg lead to the state by the rules
abbrev pub IsWorkedLeg : HomeState → Type 0
IsWorkedLeg e = IsWorked (query_of e) (leg_start (runs_to_end e.phase) (rest_state e)) e.parts (state_of e)

-- the stops that stand within a leg; outside of one those of the last leg, before its end took any away
abbrev pub stops_at : Phase → HomeState → List Stop
stops_at phase.Resting e = kept_stops (query_of e) e.log.items
stops_at (phase.Open to_end counts) e = stops_in (query_of e) (leg_state e to_end e.parts)
stops_at (phase.Lent to_end) e = kept_stops (query_of e) e.log.items
stops_at (phase.Unsettled to_end) e = kept_stops (query_of e) e.log.items
stops_at (phase.Redoing to_end empty) e = kept_stops (query_of e) e.log.items
stops_at phase.Over e = kept_stops (query_of e) e.log.items
stops_at phase.Spent e = kept_stops (query_of e) e.log.items

unfoldable pub stops_of_home : HomeState → List Stop
stops_of_home e = stops_at e.phase e

-- ---- what the log grows by

-- the log with an item more
abbrev pub with_item : Log → Item → Log
with_item log one = record log { items = log.items ++ one ∷ [] }

-- what a home does at rest: all but a leg
abbrev pub is_at_rest : Action → Bool
is_at_rest (Leg to_end) = false
is_at_rest (AtRest effect) = true

-- a command that a home does at rest
abbrev pub is_done_at_rest : Command → Bool
is_done_at_rest command = is_at_rest (action_of command)

-- the row that is dropped of one of an operator's workers, where one is named: the one before which it is held
abbrev pub dropped_in : Query → State → ℕ → Option ℕ → Option (List Value)
dropped_in query state op None = None
dropped_in query state op (Some worker) = held_row query state (worker_at query.flow op worker)

abbrev pub dropped_by_action : HomeState → Action → Option (List Value)
dropped_by_action e (Leg to_end) = None
dropped_by_action e (AtRest effect) = dropped_in (query_of e) (rest_state e) effect.op effect.drops

-- the row that a command drops
abbrev pub dropped_by : HomeState → Command → Option (List Value)
dropped_by e command = dropped_by_action e (action_of command)

-- the number among all of the worker that is lost, where one of an operator's is named
abbrev pub lost_in : List Operator → ℕ → Option ℕ → Option ℕ
lost_in flow op None = None
lost_in flow op (Some worker) = Some (worker_at flow op worker)

abbrev pub lost_by_action : HomeState → Action → Option ℕ
lost_by_action e (Leg to_end) = None
lost_by_action e (AtRest effect) = lost_in e.flow effect.op effect.loses

-- the worker that a command loses
abbrev pub lost_by : HomeState → Command → Option ℕ
lost_by e command = lost_by_action e (action_of command)

-- a leg as an item, up to a stop or to the end
abbrev pub item_of_leg : Bool → List Part → Close → Item
item_of_leg true parts close = item.End (record { parts = parts; close = close })
item_of_leg false parts close = item.Run (record { parts = parts; close = close })

-- how a leg may be closed in a state
abbrev pub ClosesIn : Bool → Query → State → Close → Type 0
ClosesIn true query state close = ClosesEnd query state close
ClosesIn false query state close = ClosesRun query state close

-- what calls tell of such a leg: who has finished, what stops stand and how many steps were made
abbrev pub MayClose : Bool → HomeState → Close → Type 0
MayClose true e close.Cut = have_finished (state_of e) ≡ true
MayClose true e close.Long = (steps_in (state_of e) ≡ e.most) × (have_finished (state_of e) ≡ false)
MayClose false e close.Cut = stops_of_home e ≢ []
MayClose false e close.Long = (steps_in (state_of e) ≡ e.most) × (stops_of_home e ≡ [])

-- the leg that is open stands in the log, closed so
abbrev pub with_closed_leg : HomeState → Close → HomeState
with_closed_leg e closed = record e { log = with_item e.log (item_of_leg (runs_to_end e.phase) e.parts closed); phase = phase.Resting; parts = [] }

-- the number of the first worker that has not finished, of workers at these positions
unfoldable pub first_unfinished : List Position → ℕ
first_unfinished [] = 0
first_unfinished (p ∷ more) = if p.finished then suc (first_unfinished more) else 0

-- the worker whose step comes next: of those that have not finished the one with the smallest number
abbrev pub next_worker : HomeState → ℕ
next_worker e = first_unfinished (state_of e).positions

-- a worker stands where it stood, and has written nothing
pub record IsLeftAlone (old new : HomeState) (worker : ℕ) : Type 0 where
  pub stands : position_at (state_of new).positions worker ≡ position_at (state_of old).positions worker
  pub writes : entries_of new.parts worker ≡ entries_of old.parts worker

-- nobody is paused
abbrev pub NoneIsPaused : HomeState → Type 0
NoneIsPaused e = (worker : ℕ) → (position_at (state_of e).positions worker).restraint.paused ≡ false

-- no operator has emitted as many rows as its pause asks for
abbrev pub IsEarly : HomeState → Type 0
IsEarly e = (op n : ℕ) → (arms_at (state_of e) op).pause ≡ Some n → emitted_by e.flow (state_of e) op < n

-- nobody is held
abbrev pub NoneIsHeld : HomeState → Type 0
NoneIsHeld e = (worker : ℕ) → (position_at (state_of e).positions worker).restraint.held ≡ false

-- a worker has written that it goes on, if it was paused
abbrev pub with_resume : Bool → List Entry → List Entry
with_resume paused entries = if paused then entries ++ entry.Resume ∷ [] else entries

-- it is as far as it was: as many steps were made and rows emitted, as many have finished, and the same stops stand
pub record IsAsFar (old new : HomeState) : Type 0 where
  pub steps : steps_in (state_of new) ≡ steps_in (state_of old)
  pub rows : (op : ℕ) → emitted_by new.flow (state_of new) op ≡ emitted_by old.flow (state_of old) op
  pub finished : have_finished (state_of new) ≡ have_finished (state_of old)
  pub stops : stops_of_home new ≡ stops_of_home old

-- each worker goes on that was paused, and has written so; it is as far as it was
pub record ResumesLeg (old new : HomeState) : Type 0 where
  pub only : new ≡ record old { parts = new.parts }
  pub writes : (worker : ℕ) → worker < crew_of old.flow
      → entries_of new.parts worker ≡ with_resume (position_at (state_of old).positions worker).restraint.paused (entries_of old.parts worker)
  pub running : NoneIsPaused new
  pub far : IsAsFar old new

-- one step was made, which the next worker has written
pub record NextMakesStep (old new : HomeState) : Type 0 where
  pub one : steps_in (state_of new) ≡ steps_in (state_of old) + 1
  pub writes : WritesStep (entries_of old.parts (next_worker old)) (entries_of new.parts (next_worker old))

-- the next worker is held by its next row, which it has written, and no step was made
pub record IsHeldNext (old new : HomeState) : Type 0 where
  pub none : steps_in (state_of new) ≡ steps_in (state_of old)
  pub held : (position_at (state_of new).positions (next_worker old)).restraint.held ≡ true
  pub writes : entries_of new.parts (next_worker old) ≡ entries_of old.parts (next_worker old) ++ entry.Hold ∷ []

-- one step was made, or none was and a worker is held
abbrev pub MovesOrHolds : HomeState → HomeState → Type 0
MovesOrHolds old new =
    (steps_in (state_of new) ≡ steps_in (state_of old) + 1)
    ⊎ ((steps_in (state_of new) ≡ steps_in (state_of old)) × ((worker : ℕ) × ((position_at (state_of new).positions worker).restraint.held ≡ true)))

-- ---- units

-- a worker's hand
abbrev pub hand_at : HomeState → ℕ → ℕ
hand_at e worker = (position_at (state_of e).positions worker).restraint.hand

-- the count that is in force at an operator
abbrev pub count_in : HomeState → ℕ → Option Counting
count_in e op = (arms_at (state_of e) op).count

-- no count is in force
abbrev pub NoneIsCounted : HomeState → Type 0
NoneIsCounted e = (op : ℕ) → count_in e op ≡ None

-- the counts that are in force are armed
abbrev pub AreArmed : HomeState → Type 0
AreArmed e = (counts_in e.phase ≡ Armed) ⊎ NoneIsCounted e

-- a worker has written that its hand was given back, if it held units
abbrev pub WritesGivenBack : HomeState → HomeState → ℕ → Type 0
WritesGivenBack old new worker = entries_of new.parts worker ≡ with_back (hand_at old worker) (entries_of old.parts worker)

-- a worker has a row pending, or one left to take
abbrev pub has_rows : Query → State → ℕ → Bool
has_rows query state worker =
    has_some (pending_rows (role_in query worker) (position_at state.positions worker)) || has_some (rest_of (role_in query worker) (position_at state.positions worker))

-- the next worker needs a unit and has none: the other workers of its operator have given theirs back, and it was granted all that are left
pub record HandsOut (old new : HomeState) : Type 0 where
  pub only : new ≡ record old { parts = new.parts }
  pub counting : Counting
  pub counted : count_in old (op_of old.flow (next_worker old)) ≡ Some counting
  pub empty : hand_at old (next_worker old) ≡ 0
  pub wants : has_rows (query_of old) (state_of old) (next_worker old) ≡ true
  pub grant : entries_of new.parts (next_worker old) ≡ entries_of old.parts (next_worker old)
      ++ entry.Grant (counting.target - counted_at old.flow (state_of old) (op_of old.flow (next_worker old)) counting) ∷ []
  pub own : (worker : ℕ) → worker < crew_of old.flow → worker ≢ next_worker old → op_of old.flow worker ≡ op_of old.flow (next_worker old) → WritesGivenBack old new worker
  pub others : (worker : ℕ) → op_of old.flow worker ≢ op_of old.flow (next_worker old) → entries_of new.parts worker ≡ entries_of old.parts worker

-- units were handed out, since the next worker needs one and has none, or were not
abbrev pub IsFed : HomeState → HomeState → Type 0
IsFed old new = (new ≡ old) ⊎ HandsOut old new

-- workers have perhaps got units; it is as far as it was
pub record FeedsLeg (old new : HomeState) : Type 0 where
  pub only : new ≡ record old { parts = new.parts }
  pub far : IsAsFar old new

-- one step more for which `home_step` was called; at its end the number stands still
abbrev pub alone_more : ℕ → ℕ
alone_more n = min (n + 1) (2 ^ 64 - 1)

-- a leg has gone on by one step, or by one hold, perhaps after units were handed out, and nothing else has changed: the other workers
-- are left alone
pub record StepsOn (old new : HomeState) : Type 0 where
  pub only : new ≡ record old { parts = new.parts; alone = alone_more old.alone }
  pub fed : HomeState
  pub feeds : IsFed old fed
  pub does : NextMakesStep fed new ⊎ IsHeldNext fed new
  pub others : (worker : ℕ) → worker ≢ next_worker fed → IsLeftAlone fed new worker

-- the boards are closed: each worker's hand was given back, and it is as far as it was
pub record DisarmsLeg (old new : HomeState) : Type 0 where
  pub only : new ≡ record old { parts = new.parts; phase = phase.Open (runs_to_end old.phase) Disarmed }
  pub writes : (worker : ℕ) → worker < crew_of old.flow → WritesGivenBack old new worker
  pub settled : IsSettled (query_of new) (state_of new)
  pub far : IsAsFar old new
