-- What a home keeps.
use Rattle.std.specs.Prelude.{◌≡◌, ◌≢◌, ℕ, ◌^◌, ◌<◌, ◌≤◌, List, [], length, IfSome, None, Option, Bool, false, true}
use Rattle.amber_dataflow.specs.AtWork.{AreJoinedAt, state_reached, steps_by, worker_state_at}
use Rattle.amber_dataflow.specs.Dataflow.{DataflowState, HaveDoneNothing, StandAt, step_count}
use Rattle.amber_dataflow.specs.Parts.{parts_from}
use Rattle.amber_dataflow.specs.Redoing.{AreRedoneAt}
use Rattle.amber_lines.specs.KeptStops.{kept_stops}
use Rattle.amber_log.specs.Grammar.{ends_over}
use Rattle.amber_meaning.specs.declared.view.Stop.{Stop}
use Rattle.amber_meaning.specs.Legal.{IsLegal, IsWorked, leg_start}
use Rattle.amber_meaning.specs.Plain.{scan_count, wrong_header}
use Rattle.amber_meaning.specs.Position.{Position}
use Rattle.amber_meaning.specs.State.{position_at}
use Rattle.amber_worker.specs.WorkerState.{WorkerState}
use Rattle.amber_home.specs.Asked.{Asked, IsInForce}
use Rattle.amber_boards.specs.Boards.{AreBelow, AreEmptyHanded, AreUnarmed, AreWithinTargets, CounterState, target_at}
use Rattle.amber_boards.specs.declared.target.Target.{Target}
use Rattle.amber_rows.specs.Topology.{crew_of}
use Rattle.amber_rows.specs.declared.flow.Operator.{Operator}
use Rattle.amber_home.specs.HomeState.{HomeState, query_of, rest_state}
use Rattle.amber_home.specs.Going.{AreReady}
use Rattle.amber_home.specs.Leg.{counts_asked}
use Rattle.amber_home.specs.declared.phase.Counts.{Counts}
use Rattle.amber_home.specs.declared.phase.Counts.TheVariants.{Armed, Disarmed, Unarmed}
use Rattle.amber_home.specs.declared.phase.Phase.{Phase}
use Rattle.amber_home.specs.declared.phase.Phase.TheVariants as phase

-- what a home keeps beside its log: its workers, what is in force at each operator, the boards of a leg whose counts are armed, the
-- stops of the last leg, and workers that have come back and are not settled yet
pub record LiveState : Type 0 where
  pub dataflow : DataflowState
  pub arms : List Asked
  pub boards : List (Option CounterState)
  pub stops : List Stop
  pub back : List WorkerState

-- there are no boards, and nobody has a seat or a unit
pub record HaveNoUnits (boards : List (Option CounterState)) (d : DataflowState) : Type 0 where
  pub none : boards ≡ []
  pub unarmed : AreUnarmed d
  pub empty : AreEmptyHanded d

-- at rest the workers stand where the log says, with nothing done since; what it says is in force, no count of it has been reached, and
-- the stops of the last leg are kept
pub record IsAtRest (e : HomeState) (live : LiveState) : Type 0 where
  pub at : StandAt (query_of e) (rest_state e) live.dataflow (position_at (rest_state e).positions)
  pub none : HaveDoneNothing live.dataflow
  pub in_force : IsInForce e.flow (rest_state e) live.arms
  pub below : AreBelow (counts_asked live.arms) live.dataflow
  pub units : HaveNoUnits live.boards live.dataflow
  pub stops_are : live.stops ≡ kept_stops (query_of e) e.log.items

-- within a leg the workers stand somewhere after where it began, and what was in force then still is
pub record IsWithinLeg (to_end : Bool) (e : HomeState) (d : DataflowState) (arms : List Asked) : Type 0 where
  pub more : ends_over false e.log.items ≡ false
  pub positions : ℕ → Position
  pub at : StandAt (query_of e) (leg_start to_end (rest_state e)) d positions
  pub in_force : IsInForce e.flow (leg_start to_end (rest_state e)) arms
  pub few : step_count d ≤ e.most

-- the same of workers that are away from it, or back and not settled yet: they are joined by their links
pub record AreWithinLeg (to_end : Bool) (e : HomeState) (workers : List WorkerState) : Type 0 where
  pub positions : ℕ → Position
  pub at : AreJoinedAt (query_of e) (leg_start to_end (rest_state e)) workers positions
  pub few : steps_by workers ≤ e.most

-- while they are away the home keeps what was in force where the leg began
pub record IsAway (to_end : Bool) (e : HomeState) (arms : List Asked) : Type 0 where
  pub more : ends_over false e.log.items ≡ false
  pub in_force : IsInForce e.flow (leg_start to_end (rest_state e)) arms

-- before counts are armed none has been reached, once the boards are closed none has counted more than it asks for
abbrev pub CountsStand : Counts → List Asked → List (Option CounterState) → DataflowState → Type 0
CountsStand Unarmed arms boards d = AreBelow (counts_asked arms) d × HaveNoUnits boards d
CountsStand Armed arms boards d = AreReady arms boards d
CountsStand Disarmed arms boards d = AreWithinTargets (counts_asked arms) d × HaveNoUnits boards d

-- workers that came back are those of the leg, counted on its boards
pub record AreUnsettled (to_end : Bool) (e : HomeState) (live : LiveState) : Type 0 where
  pub away : IsAway to_end e live.arms
  pub workers : AreWithinLeg to_end e live.back
  pub ready : AreReady live.arms live.boards (record { flow = e.flow; workers = live.back })

-- no count asks for more than 2^40 rows
abbrev pub AreFewTargets : List (Option Target) → Type 0
AreFewTargets counts = (op : ℕ) → IfSome (target_at counts op) (λ count. count.target ≤ 2 ^ 40)

-- workers that do a leg again lead where the log says, within the steps, in the leg that the home opened. Nobody has a seat, and no hand
-- holds a unit of those that have no part yet; none does exactly where it is said so
pub record AreRedoing (to_end empty : Bool) (e : HomeState) (live : LiveState) : Type 0 where
  pub away : IsAway to_end e live.arms
  pub positions : ℕ → Position
  pub stand : AreRedoneAt (record { query = query_of e; start = leg_start to_end (rest_state e); positions = positions }) live.back
  pub worked : IsWorked (query_of e) (leg_start to_end (rest_state e)) (parts_from 0 live.back) (state_reached (query_of e) (leg_start to_end (rest_state e)) positions)
  pub few : steps_by live.back ≤ e.most
  pub seats : (worker : ℕ) → (worker_state_at live.back worker).seat ≡ None
  pub fresh : (worker : ℕ) → worker < crew_of e.flow → (worker_state_at live.back worker).journal ≡ [] → (positions worker).restraint.hand ≡ 0
  pub empty_handed : empty ≡ true → (worker : ℕ) → worker < crew_of e.flow → (positions worker).restraint.hand ≡ 0
  pub full_handed : empty ≡ false → (worker : ℕ) × (worker < crew_of e.flow) × ((positions worker).restraint.hand ≢ 0)
  pub none : live.boards ≡ []
  pub targets : AreFewTargets (counts_asked live.arms)

-- at rest and within a leg it stands as the log says; in the other phases nothing is said of it
abbrev pub StandsIn : Phase → HomeState → LiveState → Type 0
StandsIn phase.Resting e live = IsAtRest e live
StandsIn (phase.Open to_end counts) e live = IsWithinLeg to_end e live.dataflow live.arms × CountsStand counts live.arms live.boards live.dataflow
StandsIn (phase.Lent to_end) e live = IsAway to_end e live.arms
StandsIn (phase.Unsettled to_end) e live = AreUnsettled to_end e live
StandsIn (phase.Redoing to_end empty) e live = AreRedoing to_end empty e live
StandsIn phase.Over e live = Unit {0}
StandsIn phase.Spent e live = Unit {0}

-- there is a file for each scan, and each begins with the names of its columns
pub record AreHeaded (flow : List Operator) (files : List (List ℕ)) : Type 0 where
  pub one_each : length files ≡ scan_count flow
  pub headers : wrong_header 1 files flow ≡ None

-- the files are those of the scans, the log is legal, and the workers stand where it says
pub record IsHome (e : HomeState) (live : LiveState) : Type 0 where
  pub few : e.most ≤ 2 ^ 40
  pub headed : AreHeaded e.flow e.files
  pub legal : IsLegal (query_of e) e.log
  pub stands : StandsIn e.phase e live

-- the same of a home that is seen so
abbrev pub IsHomeOf : (LiveState → HomeState) → LiveState → Type 0
IsHomeOf seen live = IsHome (seen live) live
