-- Workers of whom each kept standing stand somewhere again.
use Rattle.std.proofs.Common.{◌≡◌, ℕ, ◌<◌, List, length, inl, inr, arith}
use Rattle.std.proofs.lemmas.Bool.{cases_lt}
use Rattle.amber_rows.specs.Topology.{crew_of}
use Rattle.amber_meaning.specs.Legal.{Query}
use Rattle.amber_meaning.specs.Position.{Position}
use Rattle.amber_meaning.specs.State.{State, position_at}
use Rattle.amber_worker.specs.AtPosition.{IsAtPosition, KeepsUnder}
use Rattle.amber_worker.specs.WorkerState.{WorkerState, is_armed}
use Rattle.amber_dataflow.specs.AtWork.{AreJoinedAt, KeepsPosition, context_in, is_counted, worker_state_at}

-- where each stands then
pub stands-again : (query : Query) (start : State) (old new : List WorkerState) (positions : ℕ → Position) (at : AreJoinedAt query start old positions)
    → ((worker : ℕ) → worker < crew_of query.flow → is_counted query start worker ≡ is_armed (worker_state_at old worker)) → length new ≡ length old
    → ((worker : ℕ) → KeepsPosition (worker_state_at old worker) (worker_state_at new worker))
    → (worker : ℕ) → (q : Position) × (worker < crew_of query.flow → IsAtPosition (context_in at.at_positions.bases query start worker) (worker_state_at new worker) (position_at start.positions worker) q)
unfolding KeepsUnder
stands-again query start old new positions at armed long keeps worker =
    elim (cases_lt worker (crew_of query.flow)) [
      | inl below ↦
          let moved = keeps worker (context_in at.at_positions.bases query start worker) (position_at start.positions worker) (positions worker)
          (armed worker below)
          (at.at_positions.each worker below) in (moved.0, λ inside. moved.1)
      | inr beyond ↦ (positions worker, λ inside. absurd (omega arith))
    ]
