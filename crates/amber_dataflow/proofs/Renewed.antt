-- Workers with the same ends of their links that stand somewhere under what another state has in force.
use Rattle.std.proofs.Common.{◌≡◌, sym, ap, ◌∙◌, ℕ, ◌<◌, List, length, get_or}
use Rattle.amber_rows.specs.Topology.{crew_of}
use Rattle.amber_meaning.specs.Legal.{Query}
use Rattle.amber_meaning.specs.Position.{Position}
use Rattle.amber_meaning.specs.State.{State, position_at}
use Rattle.amber_worker.specs.AtPosition.{IsAtPosition}
use Rattle.amber_worker.specs.Pairs.{AreJoined}
use Rattle.amber_worker.specs.WorkerState.{WorkerState}
use Rattle.amber_dataflow.specs.AtWork.{AreAtWork, context_in, worker_state_at}
use Rattle.amber_dataflow.proofs.Linked.{settled-same}

-- the same ends, just as they were
pub record HasItsEnds (old new : WorkerState) : Type 0 where
  pub number : new.number ≡ old.number
  pub ins : new.ins ≡ old.ins
  pub outs : new.outs ≡ old.outs

-- workers of whom each has the same ends are joined alike
joined-same : (from to from_now to_now : WorkerState) → HasItsEnds from from_now → HasItsEnds to to_now → AreJoined from to → AreJoined from_now to_now
unfolding AreJoined
joined-same from to from_now to_now out_ends in_ends joined j k places one other =
    rw (out_ends.outs, in_ends.ins) (joined j k (record {
      j_within = rw (← out_ends.outs) places.j_within;
      k_within = rw (← in_ends.ins) places.k_within;
      to_is = λ d. ap (λ l. (get_or l j d).to) (sym out_ends.outs) ∙ places.to_is d ∙ in_ends.number;
      from_is = λ d. ap (λ l. (get_or l k d).from) (sym in_ends.ins) ∙ places.from_is d ∙ out_ends.number;
    }) one other)

module _ (query : Query) (start now : State) (crew after : List WorkerState) (positions later : ℕ → Position) (work : AreAtWork query start crew positions) where
  pub renewed : length after ≡ length crew → ((k : ℕ) → HasItsEnds (worker_state_at crew k) (worker_state_at after k))
      → ((worker : ℕ) → worker < crew_of query.flow
      → IsAtPosition (context_in work.at.at_positions.bases query now worker) (worker_state_at after worker) (position_at now.positions worker) (later worker))
      → AreAtWork query now after later
  renewed long same each = record {
    at = record {
      flow = work.at.flow;
      at_positions = record {
        bases = work.at.at_positions.bases;
        earlier = work.at.at_positions.earlier;
        all = long ∙ work.at.at_positions.all;
        each = each;
      };
      joined = λ from to from-in to-in.
          joined-same (worker_state_at crew from) (worker_state_at crew to) (worker_state_at after from) (worker_state_at after to) (same from) (same to)
          (work.at.joined from to from-in to-in);
    };
    settled = λ from to does.
        settled-same (worker_state_at crew from) (worker_state_at after from) (worker_state_at crew to) (worker_state_at after to)
        (same from).outs (same from).number (same to).ins (same to).number (work.settled from to does);
  }
