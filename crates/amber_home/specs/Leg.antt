-- The stops of a leg, what its close leaves in force, and what an operator shows.
use Rattle.std.specs.Prelude.{◌≡◌, ℕ, ◌+◌, ◌-◌, ◌==◌, ◌<◌, ◌⊎◌, List, [], ◌∷◌, ◌++◌, map, nat_le, is_some, Option, None, Some, Bool, true, false, if◌then◌else◌}
use Rattle.std.specs.List.{flat_map}
use Rattle.amber_dataflow.specs.AtWork.{state_reached, worker_state_at}
use Rattle.amber_dataflow.specs.Dataflow.{DataflowState, StandAt, hand_of, have_all_finished, is_held, rows_emitted}
use Rattle.amber_log.specs.declared.leg.Close.{Close}
use Rattle.amber_log.specs.declared.leg.Close.TheVariants as close
use Rattle.amber_meaning.specs.declared.view.Counted.{Counted}
use Rattle.amber_meaning.specs.declared.view.Inspected.{Inspected}
use Rattle.amber_meaning.specs.declared.view.Stop.{Stop}
use Rattle.amber_meaning.specs.declared.view.Stop.TheVariants as stop
use Rattle.amber_meaning.specs.Legal.{Query}
use Rattle.amber_meaning.specs.Position.{Position}
use Rattle.amber_meaning.specs.State.{State}
use Rattle.amber_meaning.specs.Stops.{held_stop, op_numbers}
use Rattle.amber_meaning.specs.Views.{inspected_of}
use Rattle.amber_rows.specs.Lists.{numbers_below}
use Rattle.amber_rows.specs.Topology.{crew_of, first_worker_of, op_of}
use Rattle.amber_home.specs.Asked.{Asked, IsInForce, asked_at, asked_left, is_stopped_after}
use Rattle.amber_boards.specs.declared.target.Target.{Target}

-- ---- what stands

-- the pause that is armed at an operator
abbrev pub pause_at : List Asked → ℕ → Option ℕ
pause_at arms op = (asked_at arms op).pause

-- its count
abbrev pub count_at : List Asked → ℕ → Option Target
count_at arms op = (asked_at arms op).count

-- the counts, by operator
abbrev pub counts_asked : List Asked → List (Option Target)
counts_asked arms = map (λ asked. asked.count) arms

-- a count is in force at an operator
abbrev pub is_count_asked : List Asked → ℕ → Bool
is_count_asked arms op = is_some (count_at arms op)

-- of the workers of operators that count no hand holds a unit
abbrev pub AreEmptyOf : (ℕ → Bool) → DataflowState → Type 0
AreEmptyOf counted d = (worker : ℕ) → worker < crew_of d.flow → counted (op_of d.flow worker) ≡ true → hand_of d worker ≡ 0

-- a pause or a count of this operator stands
abbrev pub is_stopped : List Asked → DataflowState → ℕ → Bool
is_stopped arms d op = is_stopped_after (asked_at arms op) (rows_emitted d op)

-- no pause and no count stands
abbrev pub NoneStands : List Asked → DataflowState → Type 0
NoneStands arms d = (op : ℕ) → is_stopped arms d op ≡ false

-- a held worker, a pause or a count stands, or all have finished
abbrev pub IsCut : List Asked → DataflowState → Type 0
IsCut arms d =
    ((worker : ℕ) × (worker < crew_of d.flow) × (is_held d worker ≡ true)) ⊎ (((op : ℕ) × (is_stopped arms d op ≡ true)) ⊎ (have_all_finished d ≡ true))

-- none does
pub record LegGoesOn (arms : List Asked) (d : DataflowState) : Type 0 where
  pub loose : (worker : ℕ) → is_held d worker ≡ false
  pub none : NoneStands arms d
  pub unfinished : have_all_finished d ≡ false

-- ---- the stops that stand

-- the stop of a worker, if it is held
abbrev pub stop_of_worker : DataflowState → ℕ → List Stop
stop_of_worker d worker =
    held_stop (op_of d.flow worker) (worker - first_worker_of d.flow (op_of d.flow worker))
    (worker_state_at d.workers worker).restraint.held (worker_state_at d.workers worker).pending

-- the stop of a count, where these rows were emitted
abbrev pub stop_of_count : ℕ → Option Target → ℕ → List Stop
stop_of_count op None rows = []
stop_of_count op (Some count) rows = if rows == count.target + count.since then stop.Count op count.target ∷ [] else []

-- the stop of a pause, where these rows were emitted
abbrev pub stop_of_pause : ℕ → Option ℕ → ℕ → List Stop
stop_of_pause op None rows = []
stop_of_pause op (Some n) rows = if nat_le n rows then stop.Pause op n rows ∷ [] else []

-- those of held workers, of counts, of pauses, and of the end
unfoldable pub held_of : DataflowState → List Stop
held_of d = flat_map (stop_of_worker d) (numbers_below (crew_of d.flow))

abbrev pub counts_of : List Asked → DataflowState → List Stop
counts_of arms d = flat_map (λ op. stop_of_count op (count_at arms op) (rows_emitted d op)) (op_numbers d.flow)

abbrev pub pauses_of : List Asked → DataflowState → List Stop
pauses_of arms d = flat_map (λ op. stop_of_pause op (pause_at arms op) (rows_emitted d op)) (op_numbers d.flow)

abbrev pub stop_at_end : DataflowState → List Stop
stop_at_end d = if have_all_finished d then stop.End ∷ [] else []

-- those that are no held worker's
abbrev pub other_stops : List Asked → DataflowState → List Stop
other_stops arms d = counts_of arms d ++ (pauses_of arms d ++ stop_at_end d)

abbrev pub stops_by : List Asked → DataflowState → List Stop
stops_by arms d = held_of d ++ other_stops arms d

-- ---- what a close leaves in force

-- what is in force at an operator once its pause and its count were taken away where they stand
abbrev pub cut_at : List Asked → DataflowState → ℕ → Asked
cut_at arms d op = asked_left (rows_emitted d op) (asked_at arms op)

-- and so at each
abbrev pub cut_arms : List Asked → DataflowState → List Asked
cut_arms arms d = map (cut_at arms d) (op_numbers d.flow)

-- what a close leaves in force: after a leg up to a stop the pauses and the counts that stand are taken away
abbrev pub closed_arms : Bool → Close → List Asked → DataflowState → List Asked
closed_arms true closed arms d = arms
closed_arms false close.Cut arms d = cut_arms arms d
closed_arms false close.Long arms d = arms

-- ---- what an operator shows

-- how far a count is, where these rows were emitted
abbrev pub counted_rows : ℕ → Target → Counted
counted_rows rows count = record { counted = rows - count.since; target = count.target }

-- wherever the workers stand, with this in force there, this is what an operator shows
unfoldable pub ShowsAt : List Asked → DataflowState → ℕ → Inspected → Type 0
ShowsAt arms d op shown = (query : Query) (start : State) (positions : ℕ → Position) → StandAt query start d positions
    → IsInForce query.flow (state_reached query start positions) arms → shown ≡ inspected_of query (state_reached query start positions) op
