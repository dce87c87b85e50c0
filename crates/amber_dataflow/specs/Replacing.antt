-- A worker in the place of another: when it may take it, and that all stand then where they stood.
use Rattle.std.specs.Prelude.{ℕ, slice_set}
use Rattle.amber_meaning.specs.Legal.{Query}
use Rattle.amber_meaning.specs.Position.{Position}
use Rattle.amber_meaning.specs.State.{State}
use Rattle.amber_worker.specs.AtPosition.{Base, Shows}
use Rattle.amber_worker.specs.Replacing.{with_links_of}
use Rattle.amber_worker.specs.WorkerState.{WorkerState}
use Rattle.amber_dataflow.specs.AtWork.{context_in, worker_state_at}
use Rattle.amber_dataflow.specs.Dataflow.{DataflowState, StandAt}

-- over links of its own a worker shows where the worker with this number stands
pub record StandsFor (query : Query) (start : State) (positions : ℕ → Position) (worker : ℕ) (made : WorkerState) : Type 0 where
  pub base : Base
  pub shows : Shows (context_in (λ _. base) query start worker) made (positions worker)

-- so it does somewhere where they stand
abbrev pub MayReplace : DataflowState → ℕ → WorkerState → Type 0
MayReplace d worker made =
    (query : Query) × (start : State) × (positions : ℕ → Position) × StandAt query start d positions × StandsFor query start positions worker made

-- the worker with this number has become that one, but for the ends of its links
abbrev pub worker_replaced : ℕ → WorkerState → DataflowState → DataflowState
worker_replaced worker made d = record d { workers = slice_set d.workers worker (with_links_of (worker_state_at d.workers worker) made) }

-- wherever they stood where it showed the same, they stand again
unfoldable pub StandReplaced : ℕ → WorkerState → DataflowState → DataflowState → Type 0
StandReplaced worker made old new = (query : Query) (start : State) (positions : ℕ → Position)
    → StandAt query start old positions → StandsFor query start positions worker made → StandAt query start new positions
