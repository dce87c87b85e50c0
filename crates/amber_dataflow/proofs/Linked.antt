-- The link of two workers, where one of them makes a turn or passes batches on.
use Rattle.std.proofs.Common.{◌≡◌, ◌≢◌, sym, ap, ◌∙◌, ℕ, zero, suc, ◌<◌, List, [], ◌∷◌, length, get_or, false, arith, length-set, get_or-set_other}
use Rattle.rtrb.specs.Ring.{sent}
use Rattle.amber_link.specs.Links.{has_some}
use Rattle.amber_link.specs.Sides.{IsSameReceiver, IsSameSender, Pairwise}
use Rattle.amber_link.specs.declared.downstreams.Downstream.{Downstream}
use Rattle.amber_link.specs.declared.upstreams.Upstream.{Upstream}
use Rattle.amber_link.proofs.LinkEnds.{linked-still, none-first, settled-by}
use Rattle.amber_link.proofs.Sides.{get_or-any, map-at, pairwise-length}
use Rattle.amber_worker.specs.AtPosition.{HasSameEnds}
use Rattle.amber_worker.specs.Links.{HaveSentNothing}
use Rattle.amber_worker.specs.Pairs.{AreJoined, AreSettledAt, IsLinkAt, PassesOn}
use Rattle.amber_worker.specs.WorkerState.{WorkerState}
use Rattle.amber_dataflow.specs.AtWork.{AllHasCome}

-- ---- places

pub pairwise-at : {A : Type 0} (R : A → A → Type 0) (xs ys : List A) (k : ℕ) (d e : A) → k < length xs → Pairwise R xs ys → R (get_or xs k d) (get_or ys k e)
unfolding Pairwise
pairwise-at R [] [] k d e less h = absurd (omega arith)
pairwise-at R [] (y ∷ ys) k d e less h = absurd h
pairwise-at R (x ∷ xs) [] k d e less h = absurd h
pairwise-at R (x ∷ xs) (y ∷ ys) zero d e less h = h.0
pairwise-at R (x ∷ xs) (y ∷ ys) (suc k) d e less h = pairwise-at R xs ys k d e (omega arith) h.1

module _ (a b : WorkerState) (same : HasSameEnds a b) where
  outs-length : length b.outs ≡ length a.outs
  outs-length = pairwise-length IsSameReceiver a.outs b.outs same.outs

  pub ins-length : length b.ins ≡ length a.ins
  ins-length = pairwise-length IsSameSender a.ins b.ins same.ins

  out-at : (j : ℕ) (d e : Downstream) → j < length a.outs → IsSameReceiver (get_or a.outs j d) (get_or b.outs j e)
  out-at j d e less = pairwise-at IsSameReceiver a.outs b.outs j d e less same.outs

  pub in-at : (k : ℕ) (d e : Upstream) → k < length a.ins → IsSameSender (get_or a.ins k d) (get_or b.ins k e)
  in-at k d e less = pairwise-at IsSameSender a.ins b.ins k d e less same.ins

-- the places of a link are the same where the ends are
module _ (from to from_now to_now : WorkerState) (one : HasSameEnds from from_now) (other : HasSameEnds to to_now) where
  pub places-now : (j k : ℕ) → IsLinkAt from to j k → IsLinkAt from_now to_now j k
  places-now j k places = record {
    j_within = rw (outs-length from from_now one) places.j_within;
    k_within = rw (ins-length to to_now other) places.k_within;
    to_is = λ d. (out-at from from_now one j d d places.j_within).to ∙ places.to_is d ∙ sym other.number;
    from_is = λ d. (in-at to to_now other k d d places.k_within).from ∙ places.from_is d ∙ sym one.number;
  }

  pub places-then : (j k : ℕ) → IsLinkAt from_now to_now j k → IsLinkAt from to j k
  places-then j k places =
      let j_less : j < length from.outs = rw (← outs-length from from_now one) places.j_within in
      let k_less : k < length to.ins = rw (← ins-length to to_now other) places.k_within in
      record {
        j_within = j_less;
        k_within = k_less;
        to_is = λ d. sym (out-at from from_now one j d d j_less).to ∙ places.to_is d ∙ other.number;
        from_is = λ d. sym (in-at to to_now other k d d k_less).from ∙ places.from_is d ∙ one.number;
      }

  -- the ends of one link are still those of one
  pub joined-still : AreJoined from to → AreJoined from_now to_now
  unfolding AreJoined
  joined-still joined j k places d e =
      let before = places-then j k places in
      linked-still (get_or from.outs j d).link (get_or from_now.outs j d).link (get_or to.ins k e).link (get_or to_now.ins k e).link (joined j k before d e)
      (out-at from from_now one j d d before.j_within).link (in-at to to_now other k e e before.k_within).link

-- ---- a turn

-- what was sent has still come: a turn sends nothing
pub come-turned : (from to now : WorkerState) → HasSameEnds from now → HaveSentNothing from.outs now.outs → AreSettledAt from to → AllHasCome now to
come-turned from to now same unsent settled =
    let j_less = settled.places.j_within in
    let now_less : settled.j < length now.outs = rw (outs-length from now same) j_less in
    let out : Downstream = get_or now.outs settled.j settled.out in
    let ring-of : Downstream → _ = λ (one : Downstream). one.link.ring in
    let ring : out.link.ring ≡ settled.out.link.ring =
    sym (map-at ring-of now.outs settled.j settled.out settled.out.link.ring now_less)
    ∙ ap (λ l. get_or l settled.j settled.out.link.ring) unsent
    ∙ map-at ring-of from.outs settled.j settled.out settled.out.link.ring j_less ∙ ap ring-of (settled.out_is settled.out) in
    record {
      j = settled.j;
      k = settled.k;
      places = record {
        j_within = now_less;
        k_within = settled.places.k_within;
        to_is = λ d. (out-at from now same settled.j d d j_less).to ∙ settled.places.to_is d;
        from_is = λ d. settled.places.from_is d ∙ sym same.number;
      };
      out = out;
      into = settled.into;
      out_is = λ d. get_or-any now.outs settled.j d settled.out now_less;
      into_is = settled.into_is;
      come = settled.settled.ring ∙ ap sent (sym ring);
      known = settled.settled.known;
    }

-- where nothing waits, the link is settled
pub settled-come : (from to : WorkerState) (h : AllHasCome from to) → ((d : Downstream) → has_some (get_or from.outs h.j d).link.kept.waiting ≡ false) → AreSettledAt from to
settled-come from to h none = record {
  j = h.j;
  k = h.k;
  places = h.places;
  out = h.out;
  into = h.into;
  out_is = h.out_is;
  into_is = h.into_is;
  settled = settled-by h.out.link h.into.link
      (none-first h.out.link.kept.waiting (ap (λ (one : Downstream). has_some one.link.kept.waiting) (sym (h.out_is h.out)) ∙ none h.out)) h.come h.known;
}

-- of a link that is settled all has come
pub come-settled : (from to : WorkerState) → AreSettledAt from to → AllHasCome from to
come-settled from to h = record {
  j = h.j;
  k = h.k;
  places = h.places;
  out = h.out;
  into = h.into;
  out_is = h.out_is;
  into_is = h.into_is;
  come = h.settled.ring;
  known = h.settled.known;
}

-- ---- batches go on

module _ (from to from_now to_now other : WorkerState) (passes : PassesOn from to from_now to_now) where
  -- the other links of the one that passes them on
  module _ (apart : other.number ≢ to.number) where
    out-stays : (j : ℕ) → j < length from.outs → ((d : Downstream) → (get_or from.outs j d).to ≡ other.number) → (d : Downstream) → get_or from_now.outs j d ≡ get_or from.outs j d
    out-stays j less own d =
        ap (λ (w : WorkerState). get_or w.outs j d) passes.from_only
        ∙ get_or-set_other from.outs passes.j j (record (get_or from.outs passes.j passes.out) { link = passes.out.link }) d
        (λ same. apart (sym (own d) ∙ ap (λ i. (get_or from.outs i d).to) same ∙ passes.places.to_is d))

    outs-long : length from_now.outs ≡ length from.outs
    outs-long = ap (λ (w : WorkerState). length w.outs) passes.from_only ∙ length-set from.outs passes.j (record (get_or from.outs passes.j passes.out) { link = passes.out.link })

    number-stays : from_now.number ≡ from.number
    number-stays = ap (λ (w : WorkerState). w.number) passes.from_only

    places-aside : (j k : ℕ) → IsLinkAt from other j k → IsLinkAt from_now other j k
    places-aside j k places = record {
      j_within = rw outs-long places.j_within;
      k_within = places.k_within;
      to_is = λ d. ap (λ (one : Downstream). one.to) (out-stays j places.j_within places.to_is d) ∙ places.to_is d;
      from_is = λ d. places.from_is d ∙ sym number-stays;
    }

    pub settled-aside : AreSettledAt from other → AreSettledAt from_now other
    settled-aside settled = record {
      j = settled.j;
      k = settled.k;
      places = places-aside settled.j settled.k settled.places;
      out = settled.out;
      into = settled.into;
      out_is = λ d. out-stays settled.j settled.places.j_within settled.places.to_is d ∙ settled.out_is d;
      into_is = settled.into_is;
      settled = settled.settled;
    }

    pub come-aside : AllHasCome from other → AllHasCome from_now other
    come-aside h = record {
      j = h.j;
      k = h.k;
      places = places-aside h.j h.k h.places;
      out = h.out;
      into = h.into;
      out_is = λ d. out-stays h.j h.places.j_within h.places.to_is d ∙ h.out_is d;
      into_is = h.into_is;
      come = h.come;
      known = h.known;
    }

  -- the other links of the one that gets them
  module _ (apart : other.number ≢ from.number) where
    in-stays : (k : ℕ) → k < length to.ins → ((d : Upstream) → (get_or to.ins k d).from ≡ other.number) → (d : Upstream) → get_or to_now.ins k d ≡ get_or to.ins k d
    in-stays k less own d =
        ap (λ (w : WorkerState). get_or w.ins k d) passes.to_only
        ∙ get_or-set_other to.ins passes.k k (record (get_or to.ins passes.k passes.into) { link = passes.into.link }) d
        (λ same. apart (sym (own d) ∙ ap (λ i. (get_or to.ins i d).from) same ∙ passes.places.from_is d))

    ins-long : length to_now.ins ≡ length to.ins
    ins-long = ap (λ (w : WorkerState). length w.ins) passes.to_only ∙ length-set to.ins passes.k (record (get_or to.ins passes.k passes.into) { link = passes.into.link })

    pub settled-beside : AreSettledAt other to → AreSettledAt other to_now
    settled-beside settled = record {
      j = settled.j;
      k = settled.k;
      places = record {
        j_within = settled.places.j_within;
        k_within = rw ins-long settled.places.k_within;
        to_is = λ d. settled.places.to_is d ∙ sym (ap (λ (w : WorkerState). w.number) passes.to_only);
        from_is = λ d. ap (λ (one : Upstream). one.from) (in-stays settled.k settled.places.k_within settled.places.from_is d) ∙ settled.places.from_is d;
      };
      out = settled.out;
      into = settled.into;
      out_is = settled.out_is;
      into_is = λ d. in-stays settled.k settled.places.k_within settled.places.from_is d ∙ settled.into_is d;
      settled = settled.settled;
    }

-- a worker of whom a link is read alone by these is as good as another
pub settled-same : (from from_now to to_now : WorkerState) → from_now.outs ≡ from.outs → from_now.number ≡ from.number → to_now.ins ≡ to.ins → to_now.number ≡ to.number
    → AreSettledAt from to → AreSettledAt from_now to_now
settled-same from from_now to to_now outs one ins other settled = record {
  j = settled.j;
  k = settled.k;
  places = record {
    j_within = rw outs settled.places.j_within;
    k_within = rw ins settled.places.k_within;
    to_is = λ d. ap (λ l. (get_or l settled.j d).to) outs ∙ settled.places.to_is d ∙ sym other;
    from_is = λ d. ap (λ l. (get_or l settled.k d).from) ins ∙ settled.places.from_is d ∙ sym one;
  };
  out = settled.out;
  into = settled.into;
  out_is = λ d. ap (λ l. get_or l settled.j d) outs ∙ settled.out_is d;
  into_is = λ d. ap (λ l. get_or l settled.k d) ins ∙ settled.into_is d;
  settled = settled.settled;
}
