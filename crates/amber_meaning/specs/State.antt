-- The state of a run: how far its workers are, and what commands have put in force.
use Rattle.std.specs.Prelude.{ℕ, ◌+◌, ◌||◌, List, [], ◌∷◌, ◌++◌, length, map, drop, replicate, sum_by, Option, Some, None, is_some, unwrap_or, Bool, false, if◌then◌else◌}
use Rattle.std.specs.List.{list_all}
use Rattle.amber_rows.specs.Kinds.{settable_cond}
use Rattle.amber_rows.specs.Lists.{nth, changed_at}
use Rattle.amber_rows.specs.Topology.{crew_of, first_worker_of, workers_of}
use Rattle.amber_rows.specs.declared.value.Value.{Value}
use Rattle.amber_rows.specs.declared.cond.Cond.{Cond}
use Rattle.amber_rows.specs.declared.flow.What.{What}
use Rattle.amber_rows.specs.declared.flow.Operator.{Operator}
use Rattle.amber_log.specs.Commands.{action_of}
use Rattle.amber_log.specs.declared.command.Command.{Command}
use Rattle.amber_log.specs.declared.effect.Action.{Action}
use Rattle.amber_log.specs.declared.effect.Action.TheVariants as action
use Rattle.amber_log.specs.declared.effect.Arming.{Arming}
use Rattle.amber_log.specs.declared.effect.Change.{Change}
use Rattle.amber_log.specs.declared.effect.Change.TheVariants as change
use Rattle.amber_meaning.specs.Position.{Position, Restraint, emitted_count, origin, steps_of}
use Rattle.amber_meaning.specs.Rules.{Orders}

-- an armed count: how many rows it asks for, and how many rows of each of its operator's workers were gone when it was armed
pub record Counting : Type 0 where
  pub target : ℕ
  pub base : List ℕ

-- what is in force at an operator: a pause, a count, a condition to stop at, and a filter's constants
pub record Arms : Type 0 where
  pub pause : Option ℕ
  pub count : Option Counting
  pub when : Option Cond
  pub constants : List Value

-- what is in force at each operator, and the position of each worker
pub record State : Type 0 where
  pub arms : List Arms
  pub positions : List Position

-- ---- reading a state

abbrev pub no_arms : Arms
no_arms = record { pause = None; count = None; when = None; constants = [] }

abbrev pub arms_at : State → ℕ → Arms
arms_at state op = unwrap_or (nth state.arms op) no_arms

-- the position of a worker
abbrev pub position_at : List Position → ℕ → Position
position_at positions worker = unwrap_or (nth positions (worker + 1)) origin

-- the orders of an operator's workers for a leg
abbrev pub orders_of : Arms → Orders
orders_of arms = record { constants = arms.constants; when = arms.when; counted = is_some arms.count }

-- the positions of an operator's workers
unfoldable pub crew_at : List Operator → State → ℕ → List Position
crew_at flow state op = map (position_at state.positions) (workers_of flow op)

-- how many rows an operator has emitted
unfoldable pub emitted_by : List Operator → State → ℕ → ℕ
emitted_by flow state op = sum_by (λ p. emitted_count p.outcomes) (crew_at flow state op)

-- how many rows a worker has emitted since this many were gone
abbrev pub emitted_since : ℕ → Position → ℕ
emitted_since base p = emitted_count (drop base p.outcomes)

-- how many rows of these workers a count has counted
unfoldable pub counted_by : List ℕ → List Position → ℕ
counted_by [] positions = 0
counted_by (base ∷ bases) [] = 0
counted_by (base ∷ bases) (p ∷ positions) = emitted_since base p + counted_by bases positions

-- how many rows an operator's count has counted
abbrev pub counted_at : List Operator → State → ℕ → Counting → ℕ
counted_at flow state op counting = counted_by counting.base (crew_at flow state op)

-- all workers have finished
abbrev pub have_finished : State → Bool
have_finished state = list_all (λ p. p.finished) state.positions

-- the steps of a run so far
unfoldable pub steps_in : State → ℕ
steps_in state = sum_by steps_of state.positions

-- ---- the start

-- the constant of a condition
abbrev pub constant_in : Option Cond → List Value
constant_in None = []
constant_in (Some cond) = cond.constant ∷ []

-- the constants in force before any command
abbrev pub first_constants : What → List Value
first_constants kind = constant_in (settable_cond kind)

-- nothing was done, nothing is armed
unfoldable pub start_of : List Operator → State
start_of flow = record {
  arms = map (λ operator. record no_arms { constants = first_constants operator.what }) flow;
  positions = replicate (crew_of flow) origin;
}

-- ---- what commands change

-- no pause, count or condition
abbrev pub without_arms : Arms → Arms
without_arms arms = record arms { pause = None; count = None; when = None }

-- what a change leaves of something that may be in force
abbrev pub put : {A : Type 0} → Change A → Option A → Option A
put change.Keep before = before
put change.TakeBack before = None
put (change.Put one) before = Some one

-- the constants stay, or another one takes their place
abbrev pub put_constant : Option Value → List Value → List Value
put_constant None before = before
put_constant (Some value) before = value ∷ []

-- a change of a count: what is put counts from where this many rows of each of the operator's workers are gone
abbrev pub counting_from : List ℕ → Change ℕ → Change Counting
counting_from gone change.Keep = change.Keep
counting_from gone change.TakeBack = change.TakeBack
counting_from gone (change.Put n) = change.Put (record { target = n; base = gone })

-- what is in force at an operator afterwards, of whose workers this many rows are gone
abbrev pub arms_changed : Arming → List ℕ → Arms → Arms
arms_changed arming gone arms = record {
  pause = put arming.pause arms.pause;
  count = put (counting_from gone arming.count) arms.count;
  when = put arming.when arms.when;
  constants = put_constant arming.constant arms.constants;
}

-- how many rows of each of an operator's workers are gone
abbrev pub gone_at : List Operator → State → ℕ → List ℕ
gone_at flow state op = map (λ p. length p.outcomes) (crew_at flow state op)

-- the row before which a worker is held is dropped, neither emitted nor counted
abbrev pub without_held : Position → Position
without_held p = if p.restraint.held then record p { outcomes = p.outcomes ++ false ∷ []; restraint = record p.restraint { held = false } } else p

-- the running number of an operator's worker
abbrev pub worker_at : List Operator → ℕ → ℕ → ℕ
worker_at flow op worker = first_worker_of flow op + worker

-- so it is with one of an operator's workers, where one is named
abbrev pub without_row : List Operator → ℕ → Option ℕ → List Position → List Position
without_row flow op None positions = positions
without_row flow op (Some worker) positions = changed_at without_held (worker_at flow op worker + 1) positions

-- a leg changes nothing here: what its workers do comes after it
abbrev pub after_action : List Operator → Action → State → State
after_action flow (action.Leg to_end) state = state
after_action flow (action.AtRest effect) state = record {
  arms = changed_at (arms_changed effect.arming (gone_at flow state effect.op)) effect.op state.arms;
  positions = without_row flow effect.op effect.drops state.positions;
}

-- the state after a command that is no leg
unfoldable pub after_command : List Operator → Command → State → State
after_command flow command state = after_action flow (action_of command) state

-- a leg begins: pauses end, and a held row may go
abbrev pub restraint_released : Restraint → Restraint
restraint_released r = record r { paused = false; held = false; waved = r.held || r.waved }

abbrev pub let_go : Position → Position
let_go p = record p { restraint = restraint_released p.restraint }

unfoldable pub begin_leg : State → State
begin_leg state = record state { positions = map let_go state.positions }

-- the last leg begins: the same, and nothing is armed any more
unfoldable pub begin_last_leg : State → State
begin_last_leg state = record {
  arms = map without_arms state.arms;
  positions = map let_go state.positions;
}
