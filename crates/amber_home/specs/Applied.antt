-- What a command that is done at rest leaves: of what is in force, and of the workers.
use Rattle.std.specs.Prelude.{ℕ, ◌<◌, ◌≤◌, List, [], ◌∷◌, ◌++◌, replicate, Option, None, Some}
use Rattle.amber_dataflow.specs.Dataflow.{DataflowState, constant_put, row_held_at, row_dropped, when_put}
use Rattle.amber_log.specs.declared.effect.Change.{Change}
use Rattle.amber_log.specs.declared.effect.Change.TheVariants as change
use Rattle.amber_log.specs.declared.effect.Effect.{Effect}
use Rattle.amber_meaning.specs.State.{worker_at}
use Rattle.amber_rows.specs.Lists.{changed_at}
use Rattle.amber_rows.specs.Topology.{crew_of}
use Rattle.amber_rows.specs.declared.cond.Cond.{Cond}
use Rattle.amber_rows.specs.declared.value.Value.{Value}
use Rattle.amber_home.specs.Asked.{Asked, asked_changed}

-- an operator with this number is there
abbrev pub HasOperator : ℕ → ℕ → Type 0
HasOperator op count = (0 < op) × (op ≤ count)

-- the worker of an operator is there that is named, where one is
abbrev pub HasNamed : DataflowState → ℕ → Option ℕ → Type 0
HasNamed d op None = Unit {0}
HasNamed d op (Some worker) = worker_at d.flow op worker < crew_of d.flow

-- what is in force, where its operator has emitted so many rows
abbrev pub arms_after : Effect → ℕ → List Asked → List Asked
arms_after effect emitted arms = changed_at (asked_changed effect.arming emitted) effect.op arms

-- another constant at an operator, where there is one
abbrev pub with_constants : ℕ → Option Value → DataflowState → DataflowState
with_constants op None d = d
with_constants op (Some value) d = constant_put op value d

-- another condition at an operator, or none, where one is put or taken back
abbrev pub with_condition : ℕ → Change Cond → DataflowState → DataflowState
with_condition op change.Keep d = d
with_condition op change.TakeBack d = when_put op None d
with_condition op (change.Put cond) d = when_put op (Some cond) d

-- without the row before which one of an operator's workers is held, where one is named
abbrev pub without_dropped : ℕ → Option ℕ → DataflowState → DataflowState
without_dropped op None d = d
without_dropped op (Some worker) d = row_dropped (worker_at d.flow op worker) d

-- that row
abbrev pub dropped_row : ℕ → Option ℕ → DataflowState → Option (List Value)
dropped_row op None d = None
dropped_row op (Some worker) d = row_held_at d (worker_at d.flow op worker)

-- the workers
abbrev pub dataflow_after : Effect → DataflowState → DataflowState
dataflow_after effect d =
    with_condition effect.op effect.arming.when (with_constants effect.op effect.arming.constant (without_dropped effect.op effect.drops d))

-- the copies that another constant wants: one for each of so many workers, and one more
abbrev pub copies_wanted : Option Value → ℕ → List Value
copies_wanted None workers = []
copies_wanted (Some value) workers = replicate workers value ++ value ∷ []

-- those that another condition wants: one for each of so many workers
abbrev pub conditions_wanted : Change Cond → ℕ → List Cond
conditions_wanted change.Keep workers = []
conditions_wanted change.TakeBack workers = []
conditions_wanted (change.Put cond) workers = replicate workers cond
