-- Which workers a worker sends to, and which send to it, at which places, does not change.
use Rattle.std.proofs.Common.{◌≡◌, refl, sym, ap, ◌∙◌, ℕ, ◌<◌, nat_eq, List, [], ◌∷◌, length, get_or, map}
use Rattle.std.specs.List.{list_any}
use Rattle.amber_rows.specs.Topology.{receivers_of, senders_of}
use Rattle.amber_rows.specs.declared.batch.Batch.{Batch}
use Rattle.amber_link.specs.declared.downstreams.Downstream.{Downstream}
use Rattle.amber_link.specs.declared.upstreams.Upstream.{Upstream}
use Rattle.amber_link.proofs.Sides.{map-at, map-length}
use Rattle.amber_meaning.specs.Legal.{Query}
use Rattle.amber_meaning.specs.Plan.{role_of}
use Rattle.amber_meaning.specs.Position.{Position, Taken}
use Rattle.amber_meaning.specs.State.{State}
use Rattle.amber_worker.specs.AtPosition.{Output, Placement, ReceiveAll, SendAll, placement_of}
use Rattle.amber_worker.specs.Made.{from_of, to_of}
use Rattle.amber_worker.specs.WorkerState.{WorkerState}
use Rattle.amber_dataflow.specs.AtWork.{AreJoinedAt, IsJoinedCrew, StayPut, worker_state_at}

tos-are : (placement : Placement) (receivers : List ℕ) (output : Output) (outs : List Downstream)
    → SendAll placement receivers output outs → map to_of outs ≡ receivers
unfolding SendAll
tos-are placement [] output [] h = refl
tos-are placement [] output (one ∷ outs) h = absurd h
tos-are placement (receiver ∷ receivers) output [] h = absurd h
tos-are placement (receiver ∷ receivers) output (one ∷ outs) h = rw (h.0.to, tos-are placement receivers output outs h.2) refl

froms-are : (senders : List ℕ) (had : ℕ → List Batch) (taken : List Taken) (ins : List Upstream) → ReceiveAll senders had taken ins → map from_of ins ≡ senders
unfolding ReceiveAll
froms-are [] had taken [] h = refl
froms-are [] had taken (one ∷ ins) h = absurd h
froms-are (sender ∷ senders) had taken [] h = absurd h
froms-are (sender ∷ senders) had taken (one ∷ ins) h = rw (h.0.from, froms-are senders had taken ins h.2) refl

module _ (query : Query) (start : State) (crew : List WorkerState) (positions : ℕ → Position) (at : AreJoinedAt query start crew positions) (number : ℕ) (inside : number < length crew) where
  pub receivers-listed : map to_of (worker_state_at crew number).outs ≡ receivers_of query.flow number
  unfolding placement_of
  receivers-listed = tos-are _ _ _ _ (at.at_positions.each number (rw (← at.at_positions.all) inside)).shows.outs

  pub senders-listed : map from_of (worker_state_at crew number).ins ≡ senders_of query.flow number
  unfolding placement_of role_of
  senders-listed = froms-are _ _ _ _ (at.at_positions.each number (rw (← at.at_positions.all) inside)).shows.ins

module _ (old new : List WorkerState) (joined : IsJoinedCrew old) (put : StayPut old new) where
  pub length-put : length new ≡ length old
  unfolding StayPut
  length-put = (put joined.0 joined.1 joined.2 joined.3).at_positions.all ∙ sym joined.3.at_positions.all

  module _ (number : ℕ) (inside : number < length old) where
    outs-same : map to_of (worker_state_at new number).outs ≡ map to_of (worker_state_at old number).outs
    unfolding StayPut
    outs-same = receivers-listed joined.0 joined.1 new joined.2 (put joined.0 joined.1 joined.2 joined.3) number (rw length-put inside)
        ∙ sym (receivers-listed joined.0 joined.1 old joined.2 joined.3 number inside)

    ins-same : map from_of (worker_state_at new number).ins ≡ map from_of (worker_state_at old number).ins
    unfolding StayPut
    ins-same = senders-listed joined.0 joined.1 new joined.2 (put joined.0 joined.1 joined.2 joined.3) number (rw length-put inside)
        ∙ sym (senders-listed joined.0 joined.1 old joined.2 joined.3 number inside)

    pub outs-long : length (worker_state_at new number).outs ≡ length (worker_state_at old number).outs
    outs-long = sym (map-length to_of (worker_state_at new number).outs) ∙ ap length outs-same ∙ map-length to_of (worker_state_at old number).outs

    pub ins-long : length (worker_state_at new number).ins ≡ length (worker_state_at old number).ins
    ins-long = sym (map-length from_of (worker_state_at new number).ins) ∙ ap length ins-same ∙ map-length from_of (worker_state_at old number).ins

    pub to-same : (place : ℕ) → place < length (worker_state_at old number).outs → (d : Downstream)
        → (get_or (worker_state_at new number).outs place d).to ≡ (get_or (worker_state_at old number).outs place d).to
    to-same place within d =
        sym (map-at to_of (worker_state_at new number).outs place d d.to (rw outs-long within))
        ∙ ap (λ xs. get_or xs place d.to) outs-same ∙ map-at to_of (worker_state_at old number).outs place d d.to within

    pub from-same : (place : ℕ) → place < length (worker_state_at old number).ins → (d : Upstream)
        → (get_or (worker_state_at new number).ins place d).from ≡ (get_or (worker_state_at old number).ins place d).from
    from-same place within d =
        sym (map-at from_of (worker_state_at new number).ins place d d.from (rw ins-long within))
        ∙ ap (λ xs. get_or xs place d.from) ins-same ∙ map-at from_of (worker_state_at old number).ins place d d.from within

    any-map : (n : ℕ) (outs : List Downstream) → list_any (λ (one : Downstream). nat_eq one.to n) outs ≡ list_any (λ x. nat_eq x n) (map to_of outs)
    any-map n [] = refl
    any-map n (one ∷ outs) = rw (any-map n outs) refl

    pub any-same : (n : ℕ) → list_any (λ (one : Downstream). nat_eq one.to n) (worker_state_at new number).outs ≡ list_any (λ (one : Downstream). nat_eq one.to n) (worker_state_at old number).outs
    any-same n = any-map n (worker_state_at new number).outs ∙ ap (list_any (λ x. nat_eq x n)) outs-same ∙ sym (any-map n (worker_state_at old number).outs)
