-- Workers that go on, on the boards of the counts that are in force.
use Rattle.std.specs.Prelude.{◌≡◌, ◌⊎◌, ℕ, List, Option, true}
use Rattle.amber_rows.specs.Topology.{op_of}
use Rattle.amber_boards.specs.Boards.{AreCounted, AreInForce, CounterState, GrantsAllLeft, board_at, has_board, target_of_count}
use Rattle.amber_dataflow.specs.Dataflow.{AreAllThere, DataflowState, IsFirst, StandAt, StepsAt, has_finished, have_all_finished, is_armed_at, is_short, rows_emitted, step_count, turned_of}
use Rattle.amber_meaning.specs.Legal.{Query}
use Rattle.amber_meaning.specs.Position.{Position}
use Rattle.amber_meaning.specs.State.{State}
use Rattle.amber_home.specs.Asked.{Asked}
use Rattle.amber_home.specs.Leg.{count_at, is_count_asked, is_stopped, stops_by}

-- of whatever query they are the workers, in a leg with these counts, they have moved on
pub record GoOn (arms : List Asked) (old new : DataflowState) : Type 0 where
  pub flow : new.flow ≡ old.flow
  pub there : AreAllThere old → AreAllThere new
  pub on : (query : Query) (start : State) (positions : ℕ → Position) → StandAt query start old positions → AreInForce (is_count_asked arms) start
      → (later : ℕ → Position) × StandAt query start new later
  -- nobody was driven
  pub undriven : (worker : ℕ) → turned_of new worker ≡ turned_of old worker

-- they are as far as they were: as many steps were made and rows emitted, all have finished just where they had, and the same stops stand
pub record AreAsFar (arms : List Asked) (old new : DataflowState) : Type 0 where
  pub steps : step_count new ≡ step_count old
  pub rows : (op : ℕ) → rows_emitted new op ≡ rows_emitted old op
  pub finished : have_all_finished new ≡ have_all_finished old
  pub stops : stops_by arms new ≡ stops_by arms old

-- the workers may make turns: each count that is in force is counted on its board, and nobody else has a seat
pub record AreReady (arms : List Asked) (boards : List (Option CounterState)) (d : DataflowState) : Type 0 where
  pub counted : AreCounted boards d
  pub targets : (op : ℕ) → target_of_count (board_at boards op) ≡ count_at arms op

-- ---- the step that comes next

-- the first that has not finished has made a step, or is held
pub record FirstSteps (old new : DataflowState) : Type 0 where
  pub worker : ℕ
  pub is : IsFirst old worker
  pub steps : StepsAt old new worker

-- units were handed to a worker, where it needs one and has none
abbrev pub IsFedAt : List (Option CounterState) → DataflowState → DataflowState → ℕ → Type 0
IsFedAt boards old new worker = (new ≡ old) ⊎ ((is_short old worker ≡ true) × GrantsAllLeft boards old new worker)

-- a worker may need a unit and have none: it has finished, or a stop stands at its operator
abbrev pub MayStarve : List Asked → DataflowState → ℕ → Type 0
MayStarve arms d worker = (has_finished d worker ≡ true) ⊎ (is_stopped arms d (op_of d.flow worker) ≡ true)

-- the first that has not finished was handed units where it needs one, and then it has made a step, or is held
pub record StepsNext (boards : List (Option CounterState)) (old new : DataflowState) : Type 0 where
  pub fed : DataflowState
  pub steps : FirstSteps fed new
  pub feeds : IsFedAt boards old fed steps.worker
  -- it is armed just where its operator has a board
  pub armed : is_armed_at fed steps.worker ≡ has_board boards (op_of old.flow steps.worker)
