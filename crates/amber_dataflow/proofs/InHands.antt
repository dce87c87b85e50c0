-- Workers that do a leg again: who sends to whom, and that they stand where they stood when batches go on.
use Rattle.std.proofs.Common.{◌≡◌, ◌≢◌, refl, sym, ap, subst, ◌∙◌, ℕ, zero, suc, ◌^◌, ◌<◌, List, [], ◌∷◌, length, get_or, set, nat_eq, true, arith}
use Rattle.std.specs.List.{list_any}
use Rattle.amber_rows.specs.Topology.{crew_of}
use Rattle.amber_link.specs.Sides.{AreLooked, IsLooked}
use Rattle.amber_link.specs.declared.upstreams.Upstream.{Upstream}
use Rattle.amber_link.proofs.LinkEnds.{gives-none}
use Rattle.amber_link.proofs.SameEnds.{receivers-same, senders-same}
use Rattle.amber_link.proofs.Sides.{get_or-any, pairwise-set}
use Rattle.amber_link.specs.declared.downstreams.Downstream.{Downstream}
use Rattle.amber_log.specs.declared.entry.Entry.{Entry}
use Rattle.amber_log.specs.declared.entry.Entry.TheVariants as entry
use Rattle.amber_meaning.specs.Legal.{Query}
use Rattle.amber_meaning.specs.Position.{Position}
use Rattle.amber_meaning.specs.State.{State, position_at}
use Rattle.amber_worker.specs.AtPosition.{Context, HasSameEnds, IsAtPosition, SendAll, output_at}
use Rattle.amber_worker.specs.Pairs.{AreJoined, PassesOn}
use Rattle.amber_worker.specs.Redoing.{with_hand}
use Rattle.amber_worker.specs.WorkerState.{WorkerState}
use Rattle.amber_worker.proofs.Received.{receive_all-looked, sides-looked}
use Rattle.amber_worker.proofs.Sent.{send_all-sent}
use Rattle.amber_worker.proofs.Settling.{Shows-relinked}
use Rattle.amber_dataflow.specs.AtWork.{AreJoinedAt, SendsTo, context_in, worker_state_at}
use Rattle.amber_dataflow.specs.Passing.{AreSameBesides, MayPass, PassedOn}
use Rattle.amber_dataflow.specs.Redoing.{AreRedoneAt, IsRedoneCrew, IsSettledFor, PassesFor, Stance, StandStill, in_hand}
use Rattle.amber_dataflow.proofs.Crews.{at-each, joined-each}
use Rattle.amber_dataflow.proofs.Emitted.{crew-few}
use Rattle.amber_dataflow.proofs.Linked.{joined-still}
use Rattle.amber_dataflow.proofs.Passed.{besides-passed, from-here, other-here, passed-length, settled-passed, to-here}
use Rattle.amber_dataflow.proofs.Sending.{IsSending, sending, sending-in, sending-out}

-- ---- as a list

-- all of them, each with what its position has in hand
abbrev in_hands : (ℕ → Position) → List WorkerState → List WorkerState
in_hands positions [] = []
in_hands positions (w ∷ crew) = with_hand (positions 0).restraint.hand w ∷ in_hands (λ worker. positions (suc worker)) crew

in-hands-length : (positions : ℕ → Position) (crew : List WorkerState) → length (in_hands positions crew) ≡ length crew
in-hands-length positions [] = refl
in-hands-length positions (w ∷ crew) = ap suc (in-hands-length (λ worker. positions (suc worker)) crew)

in-hands-at : (positions : ℕ → Position) (crew : List WorkerState) (k : ℕ) → k < length crew → worker_state_at (in_hands positions crew) k ≡ in_hand positions crew k
in-hands-at positions [] k less = absurd (omega arith)
in-hands-at positions (w ∷ crew) zero less = refl
in-hands-at positions (w ∷ crew) (suc k) less = in-hands-at (λ worker. positions (suc worker)) crew k (omega arith)

-- the hand is no part of a worker's ends
pub ends-handed : (hand : ℕ) (w : WorkerState) → HasSameEnds w (with_hand hand w)
ends-handed hand w = record { ins = senders-same w.ins; outs = receivers-same w.outs; number = refl; when = refl; route = refl }

pub ends-bare : (hand : ℕ) (w : WorkerState) → HasSameEnds (with_hand hand w) w
ends-bare hand w = record { ins = senders-same w.ins; outs = receivers-same w.outs; number = refl; when = refl; route = refl }

module _ (at : Stance) (crew : List WorkerState) (stand : AreRedoneAt at crew) where
  abbrev handed : List WorkerState
  handed = in_hands at.positions crew

  as-joined : AreJoinedAt at.query at.start handed at.positions
  as-joined = record {
    flow = stand.flow;
    at_positions = record {
      bases = stand.bases;
      earlier = stand.earlier;
      all = in-hands-length at.positions crew ∙ stand.all;
      each = λ worker inside. rw (in-hands-at at.positions crew worker (rw stand.all inside)) (stand.each worker inside);
    };
    joined = λ from to from-in to-in.
        rw (in-hands-at at.positions crew from (rw stand.all from-in), in-hands-at at.positions crew to (rw stand.all to-in))
        (joined-still (worker_state_at crew from) (worker_state_at crew to) (in_hand at.positions crew from) (in_hand at.positions crew to)
        (ends-handed (at.positions from).restraint.hand (worker_state_at crew from)) (ends-handed (at.positions to).restraint.hand (worker_state_at crew to)) (stand.joined from to from-in to-in));
  }

  pub few-redone : length crew < 2 ^ 32
  few-redone = let few = crew-few at.query.flow stand.flow in let all = stand.all in omega arith

  -- who sends to whom, in the words of these workers
  bare : (from to : ℕ) → from < length crew → to < length crew → IsSending at.query handed from to → IsSending at.query crew from to
  bare from to from-in to-in one =
      let here = in-hands-at at.positions crew from from-in in
      let there = in-hands-at at.positions crew to to-in in
      record {
        before = one.before;
        there = to-in;
        from_number = ap (λ (w : WorkerState). w.number) (sym here) ∙ one.from_number;
        to_number = ap (λ (w : WorkerState). w.number) (sym there) ∙ one.to_number;
        sends = ap (λ (w : WorkerState). list_any (λ one. nat_eq one.to to) w.outs) (sym here) ∙ one.sends;
        receives = ap (λ (w : WorkerState). list_any (λ one. nat_eq one.from from) w.ins) (sym there) ∙ one.receives;
        does = one.does;
      }

  pub sends-redone : (from to : ℕ) → from < length crew → list_any (λ one. nat_eq one.to to) (worker_state_at crew from).outs ≡ true → IsSending at.query crew from to
  sends-redone from to inside known =
      let one = sending-out at.query at.start handed at.positions as-joined from to (rw in-hands-length inside)
      (ap (λ (w : WorkerState). list_any (λ one. nat_eq one.to to) w.outs) (in-hands-at at.positions crew from inside) ∙ known) in
      bare from to inside (rw (← in-hands-length at.positions crew) one.there) one

  pub sending-redone : (from to : ℕ) → SendsTo at.query.flow from to → IsSending at.query crew from to
  sending-redone from to does =
      let one = sending at.query at.start handed at.positions as-joined from to does in
      let there : to < length crew = rw (← in-hands-length at.positions crew) one.there in
      bare from to (let before = one.before in omega arith) there one

  pub receives-redone : (from to : ℕ) → to < length crew → list_any (λ one. nat_eq one.from from) (worker_state_at crew to).ins ≡ true → IsSending at.query crew from to
  receives-redone from to inside known =
      let one = sending-in at.query at.start handed at.positions as-joined from to (rw in-hands-length inside)
      (ap (λ (w : WorkerState). list_any (λ one. nat_eq one.from from) w.ins) (in-hands-at at.positions crew to inside) ∙ known) in
      bare from to (let before = one.before in omega arith) inside one

  pub may-pass : (from to : ℕ) → from < length crew → list_any (λ one. nat_eq one.to to) (worker_state_at crew from).outs ≡ true → MayPass crew from to
  may-pass from to inside known =
      let one = sends-redone from to inside known in
      record {
        before = one.before;
        there = one.there;
        sends = rw one.to_number known;
        receives = rw one.from_number one.receives;
        joined = stand.joined from to (rw (← stand.all) inside) (rw (← stand.all) one.there);
      }

-- ---- batches go on

looked-same : (one : Upstream) → IsLooked one one
looked-same one = record { gives = gives-none one.link; only = refl }

module _ (from to from_now to_now : WorkerState) (passes : PassesOn from to from_now to_now) (hand : ℕ) (context : Context) (start p : Position) where
  -- the sender stands where it stood
  pub gives-still : IsAtPosition context (with_hand hand from) start p → IsAtPosition context (with_hand hand from_now) start p
  gives-still stands =
      subst (λ w. IsAtPosition context (with_hand hand w) start p) (sym passes.from_only)
      (record {
        leads = stands.leads;
        text = stands.text;
        shows = Shows-relinked context (with_hand hand from) p from.ins (set from.outs passes.j (record (get_or from.outs passes.j passes.out) { link = passes.out.link })) from.journal
            stands.shows stands.shows.ins stands.shows.sides
            (send_all-sent context.placement context.placement.receivers (output_at context p) from.outs passes.j passes.out passes.out passes.places.j_within passes.forwards stands.shows.outs);
      })

  looked : AreLooked to.ins (set to.ins passes.k (record (get_or to.ins passes.k passes.into) { link = passes.into.link }))
  looked =
      let now : Upstream = record (get_or to.ins passes.k passes.into) { link = passes.into.link } in
      pairwise-set IsLooked looked-same to.ins passes.k now passes.places.k_within
      (λ d. subst (λ (one : Upstream). IsLooked one now) (get_or-any to.ins passes.k passes.into d passes.places.k_within) (record { gives = passes.gives; only = refl }))

  -- and so does the receiver
  pub gets-still : IsAtPosition context (with_hand hand to) start p → IsAtPosition context (with_hand hand to_now) start p
  gets-still stands =
      let ins = set to.ins passes.k (record (get_or to.ins passes.k passes.into) { link = passes.into.link }) in
      subst (λ w. IsAtPosition context (with_hand hand w) start p) (sym passes.to_only)
      (record {
        leads = stands.leads;
        text = stands.text;
        shows = Shows-relinked context (with_hand hand to) p ins to.outs to.journal stands.shows
            (receive_all-looked context.base.had p.taken context.placement.role.senders to.ins ins looked stands.shows.ins)
            (sides-looked context.placement.role.task to.ins ins looked stands.shows.sides) stands.shows.outs;
      })

module _ (old new : List WorkerState) (from to : ℕ) (passed : PassedOn old from to new) where
  ends-passed : (k : ℕ) → HasSameEnds (worker_state_at old k) (worker_state_at new k)
  ends-passed = at-each (λ k. HasSameEnds (worker_state_at old k) (worker_state_at new k)) from
      (subst (λ w. HasSameEnds (worker_state_at old from) w) (sym (from-here old new from to passed)) passed.from_ends)
      (λ k not-from. at-each (λ k. k ≢ from → HasSameEnds (worker_state_at old k) (worker_state_at new k)) to
      (λ _. subst (λ w. HasSameEnds (worker_state_at old to) w) (sym (to-here old new from to passed)) passed.to_ends)
      (λ k not-to not-from. subst (λ w. HasSameEnds (worker_state_at old k) w) (sym (other-here old new from to passed k not-from not-to)) (ends-bare (worker_state_at old k).restraint.hand (worker_state_at old k)))
      k not-from)

  pub still-passed : StandStill old new
  unfolding StandStill
  still-passed at stand = record {
    flow = stand.flow;
    bases = stand.bases;
    earlier = stand.earlier;
    all = passed-length old new from to passed ∙ stand.all;
    each = at-each (λ k. k < crew_of at.query.flow
        → IsAtPosition (context_in stand.bases at.query at.start k) (in_hand at.positions new k) (position_at at.start.positions k) (at.positions k)) from
        (λ h. rw (from-here old new from to passed)
        (gives-still (worker_state_at old from) (worker_state_at old to) passed.from_now passed.to_now passed.passes (at.positions from).restraint.hand
        (context_in stand.bases at.query at.start from) (position_at at.start.positions from) (at.positions from) (stand.each from h)))
        (λ k not-from. at-each (λ k. k ≢ from → k < crew_of at.query.flow
        → IsAtPosition (context_in stand.bases at.query at.start k) (in_hand at.positions new k) (position_at at.start.positions k) (at.positions k)) to
        (λ _ h. rw (to-here old new from to passed)
        (gets-still (worker_state_at old from) (worker_state_at old to) passed.from_now passed.to_now passed.passes (at.positions to).restraint.hand
        (context_in stand.bases at.query at.start to) (position_at at.start.positions to) (at.positions to) (stand.each to h)))
        (λ k not-to not-from h. rw (other-here old new from to passed k not-from not-to) (stand.each k h))
        k not-from);
    joined = λ from to from-in to-in. joined-each old new ends-passed from to (stand.joined from to from-in to-in);
  }

  -- ---- for the entry that takes a batch

  pub passed-for : (batch : ℕ) → PassesFor to (entry.Take from batch) old new
  passed-for batch = record {
    still = still-passed;
    aside = besides-passed old new from to passed;
    long = passed-length old new from to passed;
    settled = λ _. settled-passed old new from to passed;
  }

still-same : (crew : List WorkerState) → StandStill crew crew
unfolding StandStill
still-same crew at stand = stand

-- where nothing is to be settled
pub same-for : (crew : List WorkerState) (worker : ℕ) (one : Entry) → IsSettledFor crew worker one → PassesFor worker one crew crew
same-for crew worker one settled = record { still = still-same crew; aside = λ k. refl; long = refl; settled = settled }

-- or no such sender is there
pub none-for : (crew : List WorkerState) → IsRedoneCrew crew → (from to batch : ℕ) → to < length crew
    → (from < length crew → list_any (λ (one : Downstream). nat_eq one.to to) (worker_state_at crew from).outs ≡ true → ⊥) → PassesFor to (entry.Take from batch) crew crew
none-for crew some from to batch inside none =
    same-for crew to (entry.Take from batch)
    (λ known. let one = receives-redone some.0 crew some.1 from to inside known in absurd (none (let before = one.before in omega arith) one.sends))
