-- A count stops a run exactly where it has counted as many rows as it asks for.
use Rattle.std.specs.Prelude.{◌≡◌, ◌≢◌, ℕ, ◌+◌, ◌==◌, ◌≤◌, ◌&&◌, List, [], ◌∷◌, ◌++◌, filter, Option, Some, None, Bool, true, false}
use Rattle.std.specs.List.{list_any}
use Rattle.amber_rows.specs.FlowRules.{IsFlow}
use Rattle.amber_log.specs.Commands.{action_of}
use Rattle.amber_log.specs.declared.effect.Action.{Action}
use Rattle.amber_log.specs.declared.effect.Action.TheVariants as action
use Rattle.amber_log.specs.declared.effect.Change.{Change}
use Rattle.amber_log.specs.declared.effect.Change.TheVariants as change
use Rattle.amber_log.specs.declared.command.Command.{Command}
use Rattle.amber_log.specs.declared.leg.Leg.{Leg}
use Rattle.amber_log.specs.declared.log.Item.{Item}
use Rattle.amber_log.specs.declared.log.Item.TheVariants as item
use Rattle.amber_log.specs.declared.log.Log.{Log}
use Rattle.amber_meaning.specs.declared.view.Stop.{Stop}
use Rattle.amber_meaning.specs.declared.view.Stop.TheVariants as stop
use Rattle.amber_meaning.specs.Legal.{IsLegal, Query, stops_in}
use Rattle.amber_meaning.specs.Replay.{after_leg, state_after}
use Rattle.amber_meaning.specs.State.{Counting, State, arms_at, begin_leg, counted_at, emitted_by}

-- ---- one leg of a log

-- a log with a leg up to a stop after these items, and whatever follows it
abbrev pub log_with_run : ℕ → List Item → Leg → List Item → Log
log_with_run batch done leg later = record { batch = batch; items = done ++ item.Run leg ∷ later }

-- the state in which that leg is closed
abbrev pub run_state : Query → List Item → Leg → State
run_state query done leg = after_leg query (begin_leg (state_after query done)) leg.parts

-- ---- where a count stops

-- a stop at an operator's count
abbrev pub is_count_at : ℕ → Stop → Bool
is_count_at op (stop.Held other worker row) = false
is_count_at op (stop.Count other n) = other == op
is_count_at op (stop.Pause other n emitted) = false
is_count_at op stop.End = false

-- the stops at an operator's count in a state
abbrev pub stops_at_count : Query → State → ℕ → List Stop
stops_at_count query state op = filter (is_count_at op) (stops_in query state)

-- a count has counted no more rows than it asks for. Where it has counted all of them one stop stands at it, with that number, and
-- else none
pub record StopsAtTarget (query : Query) (state : State) (op : ℕ) (counting : Counting) : Type 0 where
  pub most : counted_at query.flow state op counting ≤ counting.target
  pub reached : counted_at query.flow state op counting ≡ counting.target → stops_at_count query state op ≡ stop.Count op counting.target ∷ []
  pub short : counted_at query.flow state op counting ≢ counting.target → stops_at_count query state op ≡ []

-- the same of an operator, at which none stands where no count is armed
abbrev pub CountsToTarget : Query → State → ℕ → Option Counting → Type 0
CountsToTarget query state op None = stops_at_count query state op ≡ []
CountsToTarget query state op (Some counting) = StopsAtTarget query state op counting

-- so it is in each leg up to a stop of a legal log, at each operator
abbrev pub CountsStopAtTheirTarget : Type 0
CountsStopAtTheirTarget = (query : Query) (batch : ℕ) (done later : List Item) (leg : Leg) → IsFlow query.flow → IsLegal query (log_with_run batch done leg later)
    → (op : ℕ) → CountsToTarget query (run_state query done leg) op (arms_at (run_state query done leg) op).count

-- ---- what a count counts

-- something else is in force then, or nothing
abbrev pub changes : {A : Type 0} → Change A → Bool
changes change.Keep = false
changes change.TakeBack = true
changes (change.Put one) = true

-- whether it arms an operator's count, or takes it back
abbrev pub action_sets_count : ℕ → Action → Bool
action_sets_count op (action.Leg to_end) = false
action_sets_count op (action.AtRest effect) = (effect.op == op) && changes effect.arming.count

-- so does an item
abbrev pub sets_count : ℕ → Item → Bool
sets_count op (item.Do command) = action_sets_count op (action_of command)
sets_count op (item.Run leg) = false
sets_count op (item.End leg) = false

-- it arms an operator's count, for this many rows
abbrev pub ArmsCount : ℕ → ℕ → Action → Type 0
ArmsCount op target (action.Leg to_end) = ⊥
ArmsCount op target (action.AtRest effect) = (effect.op ≡ op) × (effect.arming.count ≡ change.Put target)

-- the last of these items that arms an operator's count or takes it back arms it, for this many rows
pub record WasArmed (done : List Item) (op target : ℕ) : Type 0 where
  pub before : List Item
  pub command : Command
  pub behind : List Item
  pub split : done ≡ before ++ item.Do command ∷ behind
  pub arms : ArmsCount op target (action_of command)
  pub last : list_any (sets_count op) behind ≡ false

-- a count that is armed in this state, which comes after these items, was armed by one of them, and has counted the rows that its
-- operator has emitted since
abbrev pub CountsSinceArmed : Query → List Item → State → Type 0
CountsSinceArmed query done state = (op : ℕ) (counting : Counting) → (arms_at state op).count ≡ Some counting
    → (armed : WasArmed done op counting.target)
    × (emitted_by query.flow state op ≡ emitted_by query.flow (state_after query armed.before) op + counted_at query.flow state op counting)

-- so it is where a leg up to a stop of a legal log is closed
abbrev pub CountsCountSinceArmed : Type 0
CountsCountSinceArmed = (query : Query) (batch : ℕ) (done later : List Item) (leg : Leg) → IsFlow query.flow → IsLegal query (log_with_run batch done leg later)
    → CountsSinceArmed query done (run_state query done leg)
