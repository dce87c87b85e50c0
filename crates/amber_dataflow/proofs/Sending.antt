-- What is known of a worker and one to which it sends.
use Rattle.std.proofs.Common.{◌≡◌, sym, ◌∙◌, ℕ, ◌<◌, List, length, nat_eq, true}
use Rattle.std.specs.List.{list_any}
use Rattle.amber_rows.specs.Topology.{receivers_of, senders_of}
use Rattle.amber_meaning.specs.Legal.{Query}
use Rattle.amber_meaning.specs.Plan.{role_of}
use Rattle.amber_meaning.specs.Position.{Position}
use Rattle.amber_meaning.specs.State.{State}
use Rattle.amber_meaning.proofs.Senders.{flows_send_forward}
use Rattle.amber_worker.specs.AtPosition.{placement_of}
use Rattle.amber_worker.specs.WorkerState.{WorkerState}
use Rattle.amber_worker.proofs.Settling.{receives-from, sends-to}
use Rattle.amber_dataflow.specs.AtWork.{AreJoinedAt, SendsTo, context_in, worker_state_at}
use Rattle.amber_dataflow.proofs.Links.{is_in, receives, sends}

-- one sends to the other, which stands behind it
pub record IsSending (query : Query) (crew : List WorkerState) (from to : ℕ) : Type 0 where
  pub before : from < to
  pub there : to < length crew
  pub from_number : (worker_state_at crew from).number ≡ from
  pub to_number : (worker_state_at crew to).number ≡ to
  pub sends : list_any (λ one. nat_eq one.to to) (worker_state_at crew from).outs ≡ true
  pub receives : list_any (λ one. nat_eq one.from from) (worker_state_at crew to).ins ≡ true
  pub does : SendsTo query.flow from to

module _ (query : Query) (start : State) (crew : List WorkerState) (positions : ℕ → Position) (at : AreJoinedAt query start crew positions) where
  pub number-shown : (worker : ℕ) → worker < length crew → (worker_state_at crew worker).number ≡ worker
  unfolding placement_of
  number-shown worker inside = (at.at_positions.each worker (rw (← at.at_positions.all) inside)).shows.number

  -- who the senders and receivers are
  pub receivers-are : (worker other : ℕ) → worker < length crew → list_any (λ one. nat_eq one.to other) (worker_state_at crew worker).outs ≡ is_in (receivers_of query.flow worker) other
  unfolding placement_of
  receivers-are worker other inside =
      sends-to (context_in at.at_positions.bases query start worker) (worker_state_at crew worker) (positions worker) other
      (at.at_positions.each worker (rw (← at.at_positions.all) inside)).shows

  pub senders-are : (worker other : ℕ) → worker < length crew → list_any (λ one. nat_eq one.from other) (worker_state_at crew worker).ins ≡ is_in (senders_of query.flow worker) other
  unfolding placement_of role_of
  senders-are worker other inside =
      receives-from (context_in at.at_positions.bases query start worker) (worker_state_at crew worker) (positions worker) other
      (at.at_positions.each worker (rw (← at.at_positions.all) inside)).shows

  pub sending : (from to : ℕ) → SendsTo query.flow from to → IsSending query crew from to
  sending from to does =
      let known = receives query.flow from to does.0 does.1 in
      let from-in : from < length crew = rw at.at_positions.all known.1 in
      let to-in : to < length crew = rw at.at_positions.all does.0 in
      record {
        before = flows_send_forward query.flow at.flow to from does.1;
        there = to-in;
        from_number = number-shown from from-in;
        to_number = number-shown to to-in;
        sends = receivers-are from to from-in ∙ known.0;
        receives = senders-are to from to-in ∙ does.1;
        does = does;
      }

  -- as one of them has it
  pub sending-out : (from to : ℕ) → from < length crew → list_any (λ one. nat_eq one.to to) (worker_state_at crew from).outs ≡ true → IsSending query crew from to
  sending-out from to inside known =
      let found = sends query.flow from to (rw (← at.at_positions.all) inside) (sym (receivers-are from to inside) ∙ known) in
      sending from to (found.1, found.0)

  pub sending-in : (from to : ℕ) → to < length crew → list_any (λ one. nat_eq one.from from) (worker_state_at crew to).ins ≡ true → IsSending query crew from to
  sending-in from to inside known = sending from to (rw (← at.at_positions.all) inside, sym (senders-are to from inside) ∙ known)
