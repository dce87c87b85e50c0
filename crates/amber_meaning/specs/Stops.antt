-- Why a run has stopped.
use Rattle.std.specs.Prelude.{ℕ, suc, ◌-◌, ◌==◌, nat_le, List, [], ◌∷◌, ◌++◌, length, map, Option, Some, None, Bool, true, false, if◌then◌else◌}
use Rattle.std.specs.List.{flat_map}
use Rattle.amber_rows.specs.Lists.{numbers_below}
use Rattle.amber_rows.specs.Topology.{crew_of, first_worker_of, op_of}
use Rattle.amber_rows.specs.declared.value.Value.{Value}
use Rattle.amber_rows.specs.declared.flow.Operator.{Operator}
use Rattle.amber_meaning.specs.declared.view.Stop.{Stop}
use Rattle.amber_meaning.specs.declared.view.Stop.TheVariants as stop
use Rattle.amber_meaning.specs.Position.{pending_rows}
use Rattle.amber_meaning.specs.State.{Arms, Counting, State, arms_at, counted_at, emitted_by, have_finished, position_at}
use Rattle.amber_meaning.specs.Task.{Role}

-- the operators' numbers
abbrev pub op_numbers : List Operator → List ℕ
op_numbers flow = map suc (numbers_below (length flow))

-- a held worker stands before its first pending row
abbrev pub held_stop : ℕ → ℕ → Bool → List (List Value) → List Stop
held_stop op worker false pending = []
held_stop op worker true [] = []
held_stop op worker true (row ∷ pending) = stop.Held op worker row ∷ []

unfoldable pub held_stops : List Operator → (ℕ → Role) → State → List Stop
held_stops flow role state =
    flat_map (λ worker. held_stop (op_of flow worker) (worker - first_worker_of flow (op_of flow worker))
    (position_at state.positions worker).restraint.held (pending_rows (role worker) (position_at state.positions worker))) (numbers_below (crew_of flow))

-- a count stands where it has counted as many rows as it asks for
abbrev pub count_stop : List Operator → State → ℕ → Option Counting → List Stop
count_stop flow state op None = []
count_stop flow state op (Some counting) = if counted_at flow state op counting == counting.target then stop.Count op counting.target ∷ [] else []

unfoldable pub count_stops : List Operator → State → List Stop
count_stops flow state = flat_map (λ op. count_stop flow state op (arms_at state op).count) (op_numbers flow)

-- a pause stands where its operator has emitted at least as many rows as it asks for
abbrev pub pause_stop : List Operator → State → ℕ → Option ℕ → List Stop
pause_stop flow state op None = []
pause_stop flow state op (Some n) = if nat_le n (emitted_by flow state op) then stop.Pause op n (emitted_by flow state op) ∷ [] else []

unfoldable pub pause_stops : List Operator → State → List Stop
pause_stops flow state = flat_map (λ op. pause_stop flow state op (arms_at state op).pause) (op_numbers flow)

abbrev pub end_stop : State → List Stop
end_stop state = if have_finished state then stop.End ∷ [] else []

-- held workers by their numbers, counts and pauses by operators, and the end
unfoldable pub stops_of : List Operator → (ℕ → Role) → State → List Stop
stops_of flow role state = held_stops flow role state ++ (count_stops flow state ++ (pause_stops flow state ++ end_stop state))

-- ---- what a cut removes: the counts and pauses that stand

abbrev pub count_left : List Operator → State → ℕ → Option Counting → Option Counting
count_left flow state op None = None
count_left flow state op (Some counting) = if counted_at flow state op counting == counting.target then None else Some counting

abbrev pub pause_left : List Operator → State → ℕ → Option ℕ → Option ℕ
pause_left flow state op None = None
pause_left flow state op (Some n) = if nat_le n (emitted_by flow state op) then None else Some n

abbrev pub arms_left : List Operator → State → ℕ → Arms
arms_left flow state op = record (arms_at state op) {
  count = count_left flow state op (arms_at state op).count;
  pause = pause_left flow state op (arms_at state op).pause;
}

-- the state after the cut of a leg that stopped
unfoldable pub without_stops : List Operator → State → State
without_stops flow state = record state { arms = map (arms_left flow state) (op_numbers flow) }
