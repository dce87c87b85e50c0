-- New workers with the ends of their links are at work where a run starts.
use Rattle.std.proofs.Common.{◌≡◌, refl, sym, ap, ◌∙◌, ℕ, zero, suc, ◌+◌, ◌-◌, ◌<◌, ◌≤◌, List, [], ◌∷◌, ◌++◌, length, map, get_or, replicate, nat_eq, Bool, true, false, inl, inr, if◌then◌else◌, Option, Some, None, unwrap_or, option_map, subst, arith, set, get_or-set_other}
use Rattle.std.proofs.lemmas.Bool.Decides.{eqb_tells}
use Rattle.std.proofs.lemmas.List.{get_or_append_left, get_or_push}
use Rattle.std.specs.List.{slice_get}
use Rattle.std.proofs.lemmas.Bool.{cases_lt}
use Rattle.std.proofs.Math.ListN.{get_or-eq_default}
use Rattle.rtrb.specs.Ring.{known_items, received, sent}
use Rattle.amber_rows.specs.Topology.{crew_of, kind_at, op_of, receivers_of, senders_of, what_at}
use Rattle.amber_rows.specs.FlowRules.{IsFlow}
use Rattle.amber_rows.specs.Lists.{nth}
use Rattle.amber_rows.specs.declared.batch.Batch.{Batch}
use Rattle.amber_rows.specs.declared.flow.Operator.{Operator}
use Rattle.amber_link.specs.Links.{AreLinked, waiting}
use Rattle.amber_link.specs.declared.ends.Out.{Out}
use Rattle.amber_link.specs.declared.ends.In.{In}
use Rattle.amber_link.specs.declared.downstreams.Downstream.{Downstream}
use Rattle.amber_link.specs.declared.upstreams.Upstream.{Upstream}
use Rattle.amber_link.proofs.LinkEnds.{settled-by}
use Rattle.amber_link.proofs.Sides.{get_or-any, map-at, map-length}
use Rattle.amber_meaning.specs.Legal.{Query, query_over}
use Rattle.amber_meaning.specs.Plain.{records_of}
use Rattle.amber_meaning.specs.Plan.{role_of}
use Rattle.amber_meaning.specs.Position.{Taken, origin}
use Rattle.amber_meaning.specs.State.{arms_at, first_constants, no_arms, orders_of, position_at, start_of}
use Rattle.amber_meaning.proofs.OneState.{position-get_or}
use Rattle.amber_worker.specs.AtPosition.{IsAtPosition, Output, Placement, ReceiveAll, SendAll, first_context, first_orders, no_base, placement_of}
use Rattle.amber_worker.specs.Changes.{StandsNew}
use Rattle.amber_worker.specs.Made.{end_of, link_of, roomless}
use Rattle.amber_worker.specs.Pairs.{AreJoined, AreSettledAt, IsLinkAt}
use Rattle.amber_worker.specs.WorkerState.{WorkerState}
use Rattle.amber_worker.proofs.PairFacts.{joined-made}
use Rattle.amber_dataflow.specs.AtWork.{AreAtWork, AreJoinedAt, SendsTo, context_in, no_worker_state, worker_state_at}
use Rattle.amber_dataflow.specs.Start.{AreSharesDealt, AreEnds, AreNew, IsNew, Parts, ends_at, from_whom, share_of_worker, to_whom, web_of}
use Rattle.amber_dataflow.proofs.OnePlace.{in-place, no_receiver, no_sender, out-place}
use Rattle.amber_dataflow.proofs.Sending.{sending}

-- ---- the start

get-map : {A B : Type 0} (f : A → B) (xs : List A) (i : ℕ) → slice_get (map f xs) i ≡ option_map f (slice_get xs i)
get-map f [] i = refl
get-map f (x ∷ xs) zero = refl
get-map f (x ∷ xs) (suc i) = get-map f xs i

nth-map : {A B : Type 0} (f : A → B) (xs : List A) (n : ℕ) → nth (map f xs) n ≡ option_map f (nth xs n)
nth-map f xs n = by (nat_eq n 0)
  where
    by : (b : Bool) → (if b then None else slice_get (map f xs) (n - 1)) ≡ option_map f (if b then None else slice_get xs (n - 1))
    by true = refl
    by false = get-map f xs (n - 1)

start-arms : (flow : List Operator) (op : ℕ) → arms_at (start_of flow) op ≡ record no_arms { constants = first_constants (what_at flow op) }
unfolding start_of
start-arms flow op =
    ap (λ found. unwrap_or found no_arms) (nth-map (λ (operator : Operator). record no_arms { constants = first_constants operator.what }) flow op)
    ∙ by (nth flow op)
  where
    by : (found : Option Operator) → unwrap_or (option_map (λ (operator : Operator). record no_arms { constants = first_constants operator.what }) found) no_arms
        ≡ record no_arms { constants = first_constants (kind_at found) }
    by None = refl
    by (Some operator) = refl

start-orders : (flow : List Operator) (worker : ℕ) → orders_of (arms_at (start_of flow) (op_of flow worker)) ≡ first_orders flow worker
unfolding first_orders
start-orders flow worker = ap orders_of (start-arms flow (op_of flow worker))

at-origin : (n k : ℕ) → get_or (replicate n origin) k origin ≡ origin
at-origin zero k = refl
at-origin (suc n) zero = refl
at-origin (suc n) (suc k) = at-origin n k

pub start-position : (flow : List Operator) (worker : ℕ) → position_at (start_of flow).positions worker ≡ origin
unfolding start_of
start-position flow worker = position-get_or (replicate (crew_of flow) origin) worker ∙ at-origin (crew_of flow) worker

-- ---- who stands at a place

sent-at : (placement : Placement) (receivers : List ℕ) (output : Output) (outs : List Downstream) (j : ℕ) (d : Downstream) → j < length outs
    → SendAll placement receivers output outs → get_or receivers j 0 ≡ (get_or outs j d).to
unfolding SendAll
sent-at placement [] output [] j d less h = absurd (omega arith)
sent-at placement [] output (one ∷ outs) j d less h = absurd h
sent-at placement (receiver ∷ receivers) output [] j d less h = absurd h
sent-at placement (receiver ∷ receivers) output (one ∷ outs) zero d less h = sym h.0.to
sent-at placement (receiver ∷ receivers) output (one ∷ outs) (suc j) d less h = sent-at placement receivers output outs j d (omega arith) h.2

come-at : (senders : List ℕ) (had : ℕ → List Batch) (batches : List Taken) (ins : List Upstream) (k : ℕ) (d : Upstream) → k < length ins
    → ReceiveAll senders had batches ins → get_or senders k 0 ≡ (get_or ins k d).from
unfolding ReceiveAll
come-at [] had batches [] k d less h = absurd (omega arith)
come-at [] had batches (one ∷ ins) k d less h = absurd h
come-at (sender ∷ senders) had batches [] k d less h = absurd h
come-at (sender ∷ senders) had batches (one ∷ ins) zero d less h = sym h.0.from
come-at (sender ∷ senders) had batches (one ∷ ins) (suc k) d less h = come-at senders had batches ins k d (omega arith) h.2

none-behind : {A : Type 0} (xs ys : List A) → xs ++ ys ≡ [] → ys ≡ []
none-behind [] ys e = e
none-behind (x ∷ xs) ys e = absurd (let long = ap length e in omega arith)

-- ---- all of them

module _ (flow : List Operator) (files : List (List ℕ)) (parts : Parts) (crew : List WorkerState) (flow_is : parts.flow ≡ flow) (ok : IsFlow flow)
    (dealt : AreSharesDealt flow (records_of files flow) parts.shares) (ends : AreEnds (web_of flow parts.batch_size) parts.outs parts.ins) (new : AreNew parts crew) where
  within : (worker : ℕ) → worker < crew_of flow → worker < crew_of parts.flow
  within worker below = subst (λ f. worker < crew_of f) (sym flow_is) below

  stands : (worker : ℕ) → worker < crew_of flow
      → IsAtPosition (first_context flow (records_of files flow) parts.batch_size worker) (worker_state_at crew worker) origin origin
  unfolding StandsNew
  stands worker below = subst (λ f. StandsNew (record { flow = f; number = worker; batch_size = parts.batch_size; share = share_of_worker parts.shares worker }) (worker_state_at crew worker)) flow_is (new.each worker (within worker below)).stands (records_of files flow) (dealt.dealt worker below)

  number-is : (worker : ℕ) → worker < crew_of flow → (worker_state_at crew worker).number ≡ worker
  unfolding placement_of
  number-is worker below = (stands worker below).shows.number

  outs-long : (from : ℕ) → from < crew_of flow → length (worker_state_at crew from).outs ≡ length (ends_at parts.outs from)
  outs-long from below = sym (map-length link_of (worker_state_at crew from).outs) ∙ ap length (new.each from (within from below)).outs ∙ map-length roomless (ends_at parts.outs from)

  ins-long : (to : ℕ) → to < crew_of flow → length (worker_state_at crew to).ins ≡ length (ends_at parts.ins to)
  ins-long to below = sym (map-length end_of (worker_state_at crew to).ins) ∙ ap length (new.each to (within to below)).ins

  to-at : (from j : ℕ) (d : Downstream) → from < crew_of flow → j < length (worker_state_at crew from).outs
      → get_or (to_whom (web_of flow parts.batch_size) from) j 0 ≡ (get_or (worker_state_at crew from).outs j d).to
  unfolding placement_of receivers_of
  to-at from j d below less = sent-at _ (receivers_of flow from) _ (worker_state_at crew from).outs j d less (stands from below).shows.outs

  from-at : (to k : ℕ) (d : Upstream) → to < crew_of flow → k < length (worker_state_at crew to).ins
      → get_or (from_whom (web_of flow parts.batch_size) to) k 0 ≡ (get_or (worker_state_at crew to).ins k d).from
  unfolding placement_of senders_of role_of
  from-at to k d below less = come-at (senders_of flow to) _ _ (worker_state_at crew to).ins k d less (stands to below).shows.ins

  joined : (from to : ℕ) → from < crew_of flow → to < crew_of flow → AreJoined (worker_state_at crew from) (worker_state_at crew to)
  joined from to from_in to_in =
      joined-made (worker_state_at crew from) (worker_state_at crew to) (ends_at parts.outs from) (ends_at parts.ins to)
      (new.each from (within from from_in)).outs (new.each to (within to to_in)).ins linked
    where
      linked : (j k : ℕ) → IsLinkAt (worker_state_at crew from) (worker_state_at crew to) j k → (out : Out) (into : In)
          → AreLinked (get_or (ends_at parts.outs from) j out) (get_or (ends_at parts.ins to) k into)
      linked j k places out into =
          let one : Downstream = record { to = 0; link = out } in
          let other : Upstream = record { from = 0; taken = 0; ended = false; builds = false; link = into } in
          ends.linked from to (record {
            j = j;
            k = k;
            sender_within = from_in;
            receiver_within = to_in;
            j_within = subst (λ n. j < n) (outs-long from from_in ∙ ends.outs from from_in) places.j_within;
            k_within = subst (λ n. k < n) (ins-long to to_in ∙ ends.ins to to_in) places.k_within;
            to = to-at from j one from_in places.j_within ∙ places.to_is one ∙ number-is to to_in;
            from = from-at to k other to_in places.k_within ∙ places.from_is other ∙ number-is from from_in;
          }) out into

  -- ---- what went through them

  empty-out : (from j : ℕ) (one : Downstream) → from < crew_of flow → j < length (worker_state_at crew from).outs
      → (sent (get_or (worker_state_at crew from).outs j one).link.ring ≡ []) × ((get_or (worker_state_at crew from).outs j one).link.kept.waiting ≡ [])
  empty-out from j one below less =
      let out = (get_or (worker_state_at crew from).outs j one).link in
      let given = get_or (ends_at parts.outs from) j out in
      let less_given : j < length (ends_at parts.outs from) = subst (λ n. j < n) (outs-long from below) less in
      let same : roomless given ≡ roomless out =
      sym (map-at roomless (ends_at parts.outs from) j out (roomless out) less_given)
      ∙ ap (λ l. get_or l j (roomless out)) (sym (new.each from (within from below)).outs) ∙ map-at link_of (worker_state_at crew from).outs j one (roomless out) less in
      let fresh = ends.fresh_outs from below j out less_given in
      (ap (λ (o : Out). sent o.ring) (sym same) ∙ fresh.0, ap (λ (o : Out). o.kept.waiting) (sym same) ∙ ap (λ kept. kept.waiting) fresh.1)

  empty-in : (to k : ℕ) (one : Upstream) → to < crew_of flow → k < length (worker_state_at crew to).ins
      → (received (get_or (worker_state_at crew to).ins k one).link.ring ≡ []) × (known_items (get_or (worker_state_at crew to).ins k one).link.ring ≡ [])
  empty-in to k one below less =
      let into = (get_or (worker_state_at crew to).ins k one).link in
      let same : get_or (ends_at parts.ins to) k into ≡ into =
      ap (λ l. get_or l k into) (sym (new.each to (within to below)).ins) ∙ map-at end_of (worker_state_at crew to).ins k one into less in
      let fresh = ends.fresh_ins to below k into (subst (λ n. k < n) (ins-long to below) less) in (
        ap (λ (i : In). received i.ring) (sym same) ∙ fresh.0,
        none-behind into.inbox.items (known_items into.ring) (ap waiting (sym same) ∙ fresh.1),
      )

  module _ (most : ℕ) where
    abbrev query : Query
    query = query_over flow files parts.batch_size most

    at : AreJoinedAt query (start_of flow) crew (λ _. origin)
    at = record {
      flow = ok;
      at_positions = record {
        bases = λ _. no_base;
        earlier = λ from to. refl;
        all = new.all ∙ ap crew_of flow_is;
        each = λ worker below.
            subst (λ p. IsAtPosition (context_in (λ _. no_base) query (start_of flow) worker) (worker_state_at crew worker) p origin) (sym (start-position flow worker))
            (subst (λ orders. IsAtPosition (record (context_in (λ _. no_base) query (start_of flow) worker) { orders = orders }) (worker_state_at crew worker) origin origin)
            (sym (start-orders flow worker)) (stands worker below));
      };
      joined = joined;
    }

    settled : (from to : ℕ) → SendsTo flow from to → AreSettledAt (worker_state_at crew from) (worker_state_at crew to)
    settled from to does =
        let sends = sending query (start_of flow) crew (λ _. origin) at from to does in
        let long : length crew ≡ crew_of flow = new.all ∙ ap crew_of flow_is in
        let before = sends.before in
        let there = sends.there in
        let from_long : from < length crew = omega arith in
        let from_in : from < crew_of flow = omega arith in
        let to_in : to < crew_of flow = omega arith in
        let j = out-place (worker_state_at crew from).outs to sends.sends in
        let k = in-place (worker_state_at crew to).ins from sends.receives in
        let out = get_or (worker_state_at crew from).outs j.0 (no_receiver crew from j.0 j.1) in
        let into = get_or (worker_state_at crew to).ins k.0 (no_sender crew to k.0 k.1) in
        let sent_none = empty-out from j.0 (no_receiver crew from j.0 j.1) from_in j.1 in
        let came_none = empty-in to k.0 (no_sender crew to k.0 k.1) to_in k.1 in
        record {
          j = j.0;
          k = k.0;
          places = record {
            j_within = j.1;
            k_within = k.1;
            to_is = λ one. j.2 one ∙ sym sends.to_number;
            from_is = λ one. k.2 one ∙ sym sends.from_number;
          };
          out = out;
          into = into;
          out_is = λ one. get_or-any (worker_state_at crew from).outs j.0 one (no_receiver crew from j.0 j.1) j.1;
          into_is = λ one. get_or-any (worker_state_at crew to).ins k.0 one (no_sender crew to k.0 k.1) k.1;
          settled = settled-by out.link into.link sent_none.1 (came_none.0 ∙ sym sent_none.0) came_none.1;
        }

    pub at-work : AreAtWork query (start_of flow) crew (λ _. origin)
    at-work = record { at = at; settled = settled }

  pub no-journals : (worker : ℕ) → (worker_state_at crew worker).journal ≡ []
  no-journals worker = elim (cases_lt worker (length crew)) [
    | inl below ↦ (new.each worker (subst (λ n. worker < n) new.all below)).journal
    | inr beyond ↦ ap (λ (w : WorkerState). w.journal) (get_or-eq_default crew no_worker_state beyond)
  ]

  pub no-seats : (worker : ℕ) → (worker_state_at crew worker).seat ≡ None
  no-seats worker = elim (cases_lt worker (length crew)) [
    | inl below ↦ (new.each worker (subst (λ n. worker < n) new.all below)).unarmed
    | inr beyond ↦ ap (λ (w : WorkerState). w.seat) (get_or-eq_default crew no_worker_state beyond)
  ]

-- ---- one worker is made of its parts

put-other : {A : Type 0} (xs : List A) (i k : ℕ) (x d : A) → i + 1 ≤ k → get_or (set xs i x) k d ≡ get_or xs k d
put-other xs i k x d more = get_or-set_other xs i k x d (λ same. omega arith)

pub left-put : {A : Type 0} (first xs : List A) (i : ℕ) (x d : A) → ((k : ℕ) → i ≤ k → get_or xs k d ≡ get_or first k d)
    → (k : ℕ) → i + 1 ≤ k → get_or (set xs i x) k d ≡ get_or first k d
left-put first xs i x d before k more = put-other xs i k x d more ∙ before k (omega arith)

pub new-more : (parts : Parts) (crew longer : List WorkerState) (made : WorkerState) (worker : ℕ) → longer ≡ crew ++ made ∷ [] → length crew ≡ worker
    → ((k : ℕ) → k < worker → IsNew parts k (worker_state_at crew k)) → IsNew parts worker made → (k : ℕ) → k < worker + 1 → IsNew parts k (worker_state_at longer k)
new-more parts crew longer made worker is long before here k below =
    subst (λ (l : List WorkerState). IsNew parts k (worker_state_at l k)) (sym is) (elim (eqb_tells k worker) [
      | inl same ↦ subst (λ n. IsNew parts n (worker_state_at (crew ++ made ∷ []) n)) (sym same.1)
          (subst (IsNew parts worker) (sym (get_or_push crew made no_worker_state worker long)) here)
      | inr other ↦ (let ne = other.1 in
          let less : k < worker = omega arith in
          subst (IsNew parts k) (sym (get_or_append_left crew (made ∷ []) no_worker_state k (subst (λ n. k < n) (sym long) less))) (before k less))
    ])
