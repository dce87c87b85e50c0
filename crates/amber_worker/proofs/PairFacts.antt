-- What moving batches from one worker to another leaves of where both stand, and what it says of their link.
use Rattle.std.proofs.Common.{◌≡◌, ℕ, zero, suc, ◌<◌, eqb, arith, List, [], ◌∷◌, ◌++◌, append_assoc, length, length-set, map, get_or, get_or-set_same, Bool, true, refl, sym, ap, ◌∙◌, subst}
use Rattle.std.specs.List.{list_any}
use Rattle.std.proofs.lemmas.Bool.{eq-eqb, false≢true, or_left, or_right}
use Rattle.std.proofs.lemmas.List.{append-nil}
use Rattle.amber_rows.specs.declared.batch.Batch.{Batch}
use Rattle.amber_rows.specs.Chunks.{chunks_of}
use Rattle.amber_meaning.specs.Position.{Position, Taken, emitted_rows, taken_from}
use Rattle.amber_link.specs.Links.{AreLinked, AreSettled, OutCarries, waiting}
use Rattle.amber_link.specs.Sides.{AreSameReceivers, AreSameSenders, IsSameReceiver, IsSameSender, Pairwise, without_room}
use Rattle.amber_link.specs.declared.ends.Out.{Out}
use Rattle.amber_link.specs.declared.ends.In.{In}
use Rattle.amber_link.specs.declared.upstreams.Upstream.{Upstream}
use Rattle.amber_worker.specs.Made.{end_of, link_of, roomless}
use Rattle.amber_link.specs.declared.downstreams.Downstream.{Downstream}
use Rattle.amber_link.proofs.LinkEnds.{linked-still, same-in, same-out}
use Rattle.amber_link.proofs.SameEnds.{receivers-same, senders-same}
use Rattle.amber_link.proofs.Sides.{get_or-any, map-at, map-length, pairwise-length, pairwise-set}
use Rattle.amber_worker.specs.AtPosition.{HasSameEnds, IsAtPosition, Output, Placement, ReceiveAll, Receives, SendAll, Sends, output_at, stream_to}
use Rattle.amber_worker.specs.Links.{AreEndsOf, Passes}
use Rattle.amber_worker.specs.Pairs.{AreJoined, AreSettledAt, IsLinkAt, Offers, OffersAll, PassesOn, StaysAt}
use Rattle.amber_worker.specs.WorkerState.{WorkerState}
use Rattle.amber_worker.proofs.Settling.{IsAtPosition-passed_on, IsAtPosition-passed_to}

-- the ends of one link were settled, of these workers
pub record Passed (all : Bool) (from to from_now to_now : WorkerState) : Type 0 where
  pub passes : Passes all (record { from = from.number; to = to.number }) (record { outs = from.outs; ins = to.ins }) (record { outs = from_now.outs; ins = to_now.ins })
  pub from_only : from_now ≡ record from { outs = from_now.outs }
  pub to_only : to_now ≡ record to { ins = to_now.ins }

places-of : (all : Bool) (from to from_now to_now : WorkerState) (h : Passed all from to from_now to_now) → IsLinkAt from to h.passes.j h.passes.k
places-of all from to from_now to_now h = record {
  j_within = h.passes.j_within;
  k_within = h.passes.k_within;
  to_is = h.passes.to_is;
  from_is = h.passes.from_is;
}

pub passes-on : (all : Bool) (from to from_now to_now : WorkerState) → Passed all from to from_now to_now → PassesOn from to from_now to_now
passes-on all from to from_now to_now h =
    let s = h.passes.settles in
    record {
      j = h.passes.j;
      k = h.passes.k;
      places = places-of all from to from_now to_now h;
      out = s.out;
      into = s.into;
      from_only = h.from_only ∙ ap (λ outs. record from { outs = outs }) s.outs_is;
      to_only = h.to_only ∙ ap (λ ins. record to { ins = ins }) s.ins_is;
      linked = s.linked;
      forwards = s.forwards;
      gives = s.gives;
    }

-- ---- where both stand

pub from-stays : (all : Bool) (from to from_now to_now : WorkerState) → Passed all from to from_now to_now → StaysAt from from_now
unfolding StaysAt
from-stays all from to from_now to_now h context start p stands =
    subst (λ w. IsAtPosition context w start p) (sym h.from_only)
    (IsAtPosition-passed_on all context from to start p (record { from = from.number; to = to.number }) from_now.outs to_now.ins h.passes stands)

pub to-stays : (all : Bool) (from to from_now to_now : WorkerState) → Passed all from to from_now to_now → StaysAt to to_now
unfolding StaysAt
to-stays all from to from_now to_now h context start p stands =
    subst (λ w. IsAtPosition context w start p) (sym h.to_only)
    (IsAtPosition-passed_to all context to from start p (record { from = from.number; to = to.number }) from_now.outs to_now.ins h.passes stands)

-- ---- the same ends

sender-same : (one : Upstream) → IsSameSender one one
sender-same one = record { from = refl; link = same-in one.link }

receiver-same : (one : Downstream) → IsSameReceiver one one
receiver-same one = record { to = refl; link = same-out one.link }

pub from-ends : (all : Bool) (from to from_now to_now : WorkerState) → Passed all from to from_now to_now → HasSameEnds from from_now
from-ends all from to from_now to_now h =
    let s = h.passes.settles in
    let j = h.passes.j in
    let now : Downstream = record (get_or from.outs j s.out) { link = s.out.link } in
    subst (λ w. HasSameEnds from w) (sym h.from_only)
    (record {
      ins = senders-same from.ins;
      outs = subst (λ l. AreSameReceivers from.outs l) (sym s.outs_is)
          (pairwise-set IsSameReceiver receiver-same from.outs j now h.passes.j_within
          (λ d. subst (λ (one : Downstream). IsSameReceiver one now) (get_or-any from.outs j s.out d h.passes.j_within) (record { to = refl; link = s.forwards.ring })));
      number = refl;
      when = refl;
      route = refl;
    })

pub to-ends : (all : Bool) (from to from_now to_now : WorkerState) → Passed all from to from_now to_now → HasSameEnds to to_now
to-ends all from to from_now to_now h =
    let s = h.passes.settles in
    let k = h.passes.k in
    let now : Upstream = record (get_or to.ins k s.into) { link = s.into.link } in
    subst (λ w. HasSameEnds to w) (sym h.to_only)
    (record {
      ins = subst (λ l. AreSameSenders to.ins l) (sym s.ins_is)
          (pairwise-set IsSameSender sender-same to.ins k now h.passes.k_within
          (λ d. subst (λ (one : Upstream). IsSameSender one now) (get_or-any to.ins k s.into d h.passes.k_within) (record { from = refl; link = s.gives.ring })));
      outs = receivers-same to.outs;
      number = refl;
      when = refl;
      route = refl;
    })

-- ---- the places of a link

-- what is kept of the receiver at a place
pub sends-at : (placement : Placement) (receivers : List ℕ) (output : Output) (outs : List Downstream) (j : ℕ) (n : ℕ) (d : Downstream) → j < length outs
    → (get_or outs j d).to ≡ n → SendAll placement receivers output outs → Sends placement n output (get_or outs j d)
unfolding SendAll
sends-at placement [] output [] j n d less own h = absurd (omega arith)
sends-at placement [] output (one ∷ outs) j n d less own h = absurd h
sends-at placement (receiver ∷ receivers) output [] j n d less own h = absurd h
sends-at placement (receiver ∷ receivers) output (one ∷ outs) zero n d less own h =
    subst (λ r. Sends placement r output one) (sym h.0.to ∙ own) h.0
sends-at placement (receiver ∷ receivers) output (one ∷ outs) (suc j) n d less own h = sends-at placement receivers output outs j n d (omega arith) own h.2

-- what is kept of the sender at a place
pub receives-at : (senders : List ℕ) (had : ℕ → List Batch) (batches : List Taken) (ins : List Upstream) (k : ℕ) (n : ℕ) (d : Upstream) → k < length ins → (get_or ins k d).from ≡ n
    → ReceiveAll senders had batches ins → Receives n (had n) batches (get_or ins k d)
unfolding ReceiveAll
receives-at [] had batches [] k n d less own h = absurd (omega arith)
receives-at [] had batches (one ∷ ins) k n d less own h = absurd h
receives-at (sender ∷ senders) had batches [] k n d less own h = absurd h
receives-at (sender ∷ senders) had batches (one ∷ ins) zero n d less own h = subst (λ s. Receives s (had s) batches one) (sym h.0.from ∙ own) h.0
receives-at (sender ∷ senders) had batches (one ∷ ins) (suc k) n d less own h = receives-at senders had batches ins k n d (omega arith) own h.2

-- it is one of the senders
is-sender : (senders : List ℕ) (had : ℕ → List Batch) (batches : List Taken) (ins : List Upstream) (k : ℕ) (n : ℕ) (d : Upstream) → k < length ins → (get_or ins k d).from ≡ n
    → ReceiveAll senders had batches ins → list_any (λ other. eqb other n) senders ≡ true
unfolding ReceiveAll
is-sender [] had batches [] k n d less own h = absurd (omega arith)
is-sender [] had batches (one ∷ ins) k n d less own h = absurd h
is-sender (sender ∷ senders) had batches [] k n d less own h = absurd h
is-sender (sender ∷ senders) had batches (one ∷ ins) zero n d less own h = or_left _ _ (eq-eqb sender n (sym h.0.from ∙ own))
is-sender (sender ∷ senders) had batches (one ∷ ins) (suc k) n d less own h = or_right _ _ (is-sender senders had batches ins k n d (omega arith) own h.2)

-- and stands at one place alone
one-place : (senders : List ℕ) (had : ℕ → List Batch) (batches : List Taken) (ins : List Upstream) (k m : ℕ) (n : ℕ) (d e : Upstream) → k < length ins → m < length ins
    → (get_or ins k d).from ≡ n → (get_or ins m e).from ≡ n → ReceiveAll senders had batches ins → k ≡ m
unfolding ReceiveAll
one-place [] had batches [] k m n d e less below own same h = absurd (omega arith)
one-place [] had batches (one ∷ ins) k m n d e less below own same h = absurd h
one-place (sender ∷ senders) had batches [] k m n d e less below own same h = absurd h
one-place (sender ∷ senders) had batches (one ∷ ins) zero zero n d e less below own same h = refl
one-place (sender ∷ senders) had batches (one ∷ ins) zero (suc m) n d e less below own same h =
    let here : sender ≡ n = sym h.0.from ∙ own in
    absurd (false≢true (sym h.1 ∙ ap (λ s. list_any (λ other. eqb other s) senders) here ∙ is-sender senders had batches ins m n e (omega arith) same h.2))
one-place (sender ∷ senders) had batches (one ∷ ins) (suc k) zero n d e less below own same h =
    let here : sender ≡ n = sym h.0.from ∙ same in
    absurd (false≢true (sym h.1 ∙ ap (λ s. list_any (λ other. eqb other s) senders) here ∙ is-sender senders had batches ins k n d (omega arith) own h.2))
one-place (sender ∷ senders) had batches (one ∷ ins) (suc k) (suc m) n d e less below own same h =
    ap suc (one-place senders had batches ins k m n d e (omega arith) (omega arith) own same h.2)

-- ---- what is offered

pub offers : (all : Bool) (from to from_now to_now : WorkerState) → Passed all from to from_now to_now → Offers from to
unfolding Offers
offers all from to from_now to_now h one other beside =
    let sender : Placement = one.context.placement in
    let receiver : Placement = other.context.placement in
    let p : Position = one.position in
    let q : Position = other.position in
    let s = h.passes.settles in
    let out : Downstream = get_or from.outs h.passes.j s.out in
    let into : Upstream = get_or to.ins h.passes.k s.into in
    let sends = sends-at sender sender.receivers (output_at one.context p) from.outs h.passes.j receiver.number s.out h.passes.j_within
    (h.passes.to_is s.out ∙ beside.other_shows.number) beside.shows.outs in
    let receives = receives-at receiver.role.senders other.context.base.had q.taken to.ins h.passes.k sender.number s.into h.passes.k_within
    (h.passes.from_is s.into ∙ beside.shows.number) beside.other_shows.ins in
    let carries : OutCarries out.link (other.context.base.had sender.number) (stream_to sender receiver.number (emitted_rows sender.role p)) =
    subst (λ gave. OutCarries out.link gave (stream_to sender receiver.number (emitted_rows sender.role p))) beside.earlier sends.carries in
    let whole = s.whole.chunks (other.context.base.had sender.number) (taken_from q.taken sender.number) (stream_to sender receiver.number (emitted_rows sender.role p)) carries receives.come in (
      waiting into.link ++ (s.whole.beyond ++ out.link.kept.waiting),
      sym (append_assoc (taken_from q.taken sender.number) (waiting into.link) (s.whole.beyond ++ out.link.kept.waiting)) ∙ whole
          ∙ ap (λ n. chunks_of n (stream_to sender receiver.number (emitted_rows sender.role p)) out.link.kept.ended) sends.batch_size
          ∙ ap (λ b. chunks_of sender.batch_size (stream_to sender receiver.number (emitted_rows sender.role p)) b) sends.over,
    )

-- of a link that is settled
pub offers-all : (from to : WorkerState) → AreSettledAt from to → OffersAll from to
unfolding OffersAll
offers-all from to h one other beside k d less own =
    let sender : Placement = one.context.placement in
    let receiver : Placement = other.context.placement in
    let p : Position = one.position in
    let q : Position = other.position in
    let out : Downstream = get_or from.outs h.j h.out in
    let into : Upstream = get_or to.ins k d in
    let from_is = h.places.from_is d ∙ beside.shows.number in
    let same : k ≡ h.k = one-place receiver.role.senders other.context.base.had q.taken to.ins k h.k sender.number d d less h.places.k_within own from_is beside.other_shows.ins in
    let sends = sends-at sender sender.receivers (output_at one.context p) from.outs h.j receiver.number h.out h.places.j_within
    (h.places.to_is h.out ∙ beside.other_shows.number) beside.shows.outs in
    let receives = receives-at receiver.role.senders other.context.base.had q.taken to.ins k sender.number d less own beside.other_shows.ins in
    let carries : OutCarries out.link (other.context.base.had sender.number) (stream_to sender receiver.number (emitted_rows sender.role p)) =
    subst (λ gave. OutCarries out.link gave (stream_to sender receiver.number (emitted_rows sender.role p))) beside.earlier sends.carries in
    let settled : AreSettled out.link into.link = subst (λ (r : Downstream). AreSettled r.link into.link) (sym (h.out_is h.out))
    (subst (λ (r : Upstream). AreSettled h.out.link r.link) (sym (ap (λ n. get_or to.ins n d) same ∙ h.into_is d)) h.settled) in
    let known : waiting into.link ≡ into.link.inbox.items = ap (λ l. into.link.inbox.items ++ l) settled.known ∙ append-nil into.link.inbox.items in
    ap (λ l. taken_from q.taken sender.number ++ l) known
    ∙ settled.chunks (other.context.base.had sender.number) (taken_from q.taken sender.number) (stream_to sender receiver.number (emitted_rows sender.role p)) carries receives.come
    ∙ ap (λ n. chunks_of n (stream_to sender receiver.number (emitted_rows sender.role p)) out.link.kept.ended) sends.batch_size
    ∙ ap (λ b. chunks_of sender.batch_size (stream_to sender receiver.number (emitted_rows sender.role p)) b) sends.over

pub settled-at : (from to from_now to_now : WorkerState) → Passed true from to from_now to_now → AreSettledAt from_now to_now
settled-at from to from_now to_now h =
    let s = h.passes.settles in
    let j = h.passes.j in
    let k = h.passes.k in
    let now : Downstream = record (get_or from.outs j s.out) { link = s.out.link } in
    let then_in : Upstream = record (get_or to.ins k s.into) { link = s.into.link } in
    let j_within : j < length from_now.outs = rw (s.outs_is, length-set) h.passes.j_within in
    let k_within : k < length to_now.ins = rw (s.ins_is, length-set) h.passes.k_within in
    let out_is : (d : Downstream) → get_or from_now.outs j d ≡ now = λ d. ap (λ l. get_or l j d) s.outs_is ∙ get_or-set_same from.outs j now d h.passes.j_within in
    let in_is : (d : Upstream) → get_or to_now.ins k d ≡ then_in = λ d. ap (λ l. get_or l k d) s.ins_is ∙ get_or-set_same to.ins k then_in d h.passes.k_within in
    record {
      j = j;
      k = k;
      out = now;
      into = then_in;
      out_is = out_is;
      into_is = in_is;
      places = record {
        j_within = j_within;
        k_within = k_within;
        to_is = λ d. ap (λ (r : Downstream). r.to) (out_is d) ∙ h.passes.to_is s.out ∙ sym (ap (λ (w : WorkerState). w.number) h.to_only);
        from_is = λ d. ap (λ (r : Upstream). r.from) (in_is d) ∙ h.passes.from_is s.into ∙ sym (ap (λ (w : WorkerState). w.number) h.from_only);
      };
      settled = s.settled refl;
    }

-- the ends of their link, whatever room there is
pub ends-of : (from to : WorkerState) (outs : List Downstream) → from.outs ≡ map without_room outs → AreJoined from to → AreEndsOf from.number to.number outs to.ins
unfolding AreJoined
ends-of from to outs is joined j k one other j_less k_less to_is from_is =
    let here : (d : Downstream) → get_or from.outs j d ≡ without_room (get_or outs j one) = λ d. ap (λ l. get_or l j d) is ∙ map-at without_room outs j one d j_less in
    let there : (d : Upstream) → get_or to.ins k d ≡ get_or to.ins k other = λ d. get_or-any to.ins k d other k_less in
    let places : IsLinkAt from to j k = record {
      j_within = rw (is, map-length) j_less;
      k_within = k_less;
      to_is = λ d. ap (λ (r : Downstream). r.to) (here d) ∙ to_is;
      from_is = λ d. ap (λ (r : Upstream). r.from) (there d) ∙ from_is;
    } in
    subst (λ (r : Downstream). AreLinked r.link (get_or to.ins k other).link) (here one) (joined j k places one other)

-- ---- they stay joined

pairwise-at : {A : Type 0} (R : A → A → Type 0) (xs ys : List A) (k : ℕ) (d e : A) → k < length ys → Pairwise R xs ys → R (get_or xs k d) (get_or ys k e)
unfolding Pairwise
pairwise-at R [] [] k d e less h = absurd (omega arith)
pairwise-at R [] (y ∷ ys) k d e less h = absurd h
pairwise-at R (x ∷ xs) [] k d e less h = absurd h
pairwise-at R (x ∷ xs) (y ∷ ys) zero d e less h = h.0
pairwise-at R (x ∷ xs) (y ∷ ys) (suc k) d e less h = pairwise-at R xs ys k d e (omega arith) h.1

-- two workers that hold the ends of their link hold them still, where each has the same ends
pub joined-still : (from to from_now to_now : WorkerState) → AreJoined from to → HasSameEnds from from_now → HasSameEnds to to_now → AreJoined from_now to_now
unfolding AreJoined
joined-still from to from_now to_now joined out_ends in_ends j k places one other =
    let outs : (d e : Downstream) → IsSameReceiver (get_or from.outs j d) (get_or from_now.outs j e) = λ d e. pairwise-at IsSameReceiver from.outs from_now.outs j d e places.j_within out_ends.outs in
    let ins : (d e : Upstream) → IsSameSender (get_or to.ins k d) (get_or to_now.ins k e) = λ d e. pairwise-at IsSameSender to.ins to_now.ins k d e places.k_within in_ends.ins in
    let before : IsLinkAt from to j k = record {
      j_within = let same = pairwise-length IsSameReceiver from.outs from_now.outs out_ends.outs in let less = places.j_within in omega arith;
      k_within = let same = pairwise-length IsSameSender to.ins to_now.ins in_ends.ins in let less = places.k_within in omega arith;
      to_is = λ d. sym (outs d d).to ∙ places.to_is d ∙ in_ends.number;
      from_is = λ d. sym (ins d d).from ∙ places.from_is d ∙ out_ends.number;
    } in
    linked-still (get_or from.outs j one).link (get_or from_now.outs j one).link (get_or to.ins k other).link (get_or to_now.ins k other).link
    (joined j k before one other) (outs one one).link (ins other other).link

-- new workers that were given the ends of their links hold them
pub joined-made : (from to : WorkerState) (outs : List Out) (ins : List In) → map link_of from.outs ≡ map roomless outs → map end_of to.ins ≡ ins
    → ((j k : ℕ) → IsLinkAt from to j k → (out : Out) (into : In) → AreLinked (get_or outs j out) (get_or ins k into)) → AreJoined from to
unfolding AreJoined
joined-made from to outs ins outs_are ins_are linked j k places one other =
    let within : j < length outs = subst (λ n. j < n) (sym (map-length link_of from.outs) ∙ ap length outs_are ∙ map-length roomless outs) places.j_within in
    let out_is : roomless (get_or outs j one.link) ≡ roomless (get_or from.outs j one).link =
    sym (map-at roomless outs j one.link (roomless one.link) within) ∙ ap (λ l. get_or l j (roomless one.link)) (sym outs_are) ∙ map-at link_of from.outs j one (roomless one.link) places.j_within in
    let in_is : get_or ins k other.link ≡ (get_or to.ins k other).link = ap (λ l. get_or l k other.link) (sym ins_are) ∙ map-at end_of to.ins k other other.link places.k_within in
    subst (λ (out : Out). AreLinked out (get_or to.ins k other).link) out_is (subst (λ (into : In). AreLinked (get_or outs j one.link) into) in_is (linked j k places one.link other.link))
