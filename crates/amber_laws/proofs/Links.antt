-- What an operator's workers are given together, and which of them has what of it.
use Rattle.std.proofs.Common.{◌≡◌, ℕ, ◌+◌, ◌-◌, ◌<◌, ◌≤◌, ◌%◌, ◌&&◌, ◌||◌, cond, eqb, Bool, true, false, List, [], ◌∷◌, ◌++◌, length, filter, Result, Ok, Err, refl, sym, ◌∙◌, ap, arith, ◌⊎◌, inl, inr}
use Rattle.std.specs.List.{flat_map, list_all}
use Rattle.std.proofs.Math.Nat.{mod-lt}
use Rattle.std.proofs.lemmas.Bool.{and_from, and_parts, cases_Bool, eq-eqb, eqb-false, eqb-true, false≢true, ne_eqb, or_parts}
use Rattle.std.proofs.lemmas.List.{append-nil}
use Rattle.std.proofs.lemmas.List.Elements.{filter-append, filter_agree}
use Rattle.std.proofs.lemmas.List.Folds.{list_all-append}
use Rattle.amber_rows.specs.Lists.{numbers_below, list_at}
use Rattle.amber_rows.specs.Topology.{crew_of, first_worker_of, follower_of, keyed_receiver_of, op_of, reader_of, reads, receiver_of, senders_of, sends_to, what_at, worker_count, workers_of}
use Rattle.amber_rows.specs.Kinds.{is_keyed, side_keys, inputs_of, is_scan}
use Rattle.amber_rows.specs.FlowRules.{IsFlow}
use Rattle.amber_rows.specs.Routing.{key_bytes_of, route_of}
use Rattle.amber_rows.specs.declared.value.Value.{Value}
use Rattle.amber_rows.specs.declared.record.RowFault.{RowFault}
use Rattle.amber_rows.specs.declared.flow.What.{What}
use Rattle.amber_rows.specs.declared.flow.What.TheVariants as what
use Rattle.amber_rows.specs.declared.flow.Operator.{Operator}
use Rattle.amber_meaning.proofs.Numbers.{among, among-cases, among-first, among-flat, among-kept, among-more, are_different, below-in, different-below, different-both, different-kept, in-below, kept-among}
use Rattle.amber_meaning.proofs.Lists.{list_all-every}
use Rattle.amber_meaning.specs.Legal.{Query}
use Rattle.amber_meaning.specs.Plan.{role_of, task_of, numbered_record, record_number}
use Rattle.amber_rows.specs.Shares.{share_of, turn_of, with_numbers}
use Rattle.amber_meaning.specs.Position.{share_or}
use Rattle.amber_meaning.specs.Task.{Arrival}
use Rattle.amber_meaning.specs.Total.{dealt_stream, total_arrivals, arrivals_from}
use Rattle.amber_laws.proofs.Bags.{Same, Join, equal-among, same-among, same-dealt, same-flat_map, same-is, sent_to}
use Rattle.amber_laws.proofs.Numbers.{same-members}
use Rattle.amber_meaning.proofs.Crews.{different-workers, own-worker, place-worker, worker-known, worker-op, worker-within}
use Rattle.amber_meaning.proofs.Flows.{reader-is, sides-differ, some-workers}

-- ---- the workers from which an operator's workers are given rows

-- all workers of its inputs, the build side first
unfoldable pub feeders_of : List Operator → ℕ → List ℕ
feeders_of flow op = flat_map (workers_of flow) (inputs_of (what_at flow op))

pub flat_among : (f : ℕ → List ℕ) (n : ℕ) (ks : List ℕ) → among n (flat_map f ks) ≡ true → (k : ℕ) × (among k ks ≡ true) × (among n (f k) ≡ true)
flat_among f n [] h = absurd (false≢true h)
flat_among f n (k ∷ ks) h = by (among-cases n (f k) (flat_map f ks) h) (flat_among f n ks)
  where
    by : (among n (f k) ≡ true) ⊎ (among n (flat_map f ks) ≡ true) → (among n (flat_map f ks) ≡ true → (j : ℕ) × (among j ks ≡ true) × (among n (f j) ≡ true))
        → (j : ℕ) × (among j (k ∷ ks) ≡ true) × (among n (f j) ≡ true)
    by (inl here) rest = (k, among-first k ks, here)
    by (inr there) rest = let found = rest there in (found.0, among-more found.0 k ks found.1, found.2)

-- a worker that feeds is one of an input
pub feeder-reads : (flow : List Operator) (op sender : ℕ) → among sender (feeders_of flow op) ≡ true
    → (sender < crew_of flow) × (reads (what_at flow op) (op_of flow sender) ≡ true) × (among sender (workers_of flow (op_of flow sender)) ≡ true)
unfolding feeders_of
feeder-reads flow op sender h =
    let found = flat_among (workers_of flow) sender (inputs_of (what_at flow op)) h in
    let known = worker-known flow found.0 sender found.2 in
    let same : op_of flow sender ≡ found.0 = worker-op flow found.0 sender found.2 in
    (known, ap (reads (what_at flow op)) same ∙ found.1, own-worker flow sender known)

reads-feeder : (flow : List Operator) (op sender : ℕ) → sender < crew_of flow → reads (what_at flow op) (op_of flow sender) ≡ true
    → among sender (feeders_of flow op) ≡ true
unfolding feeders_of
reads-feeder flow op sender known r = among-flat (workers_of flow) (op_of flow sender) sender (inputs_of (what_at flow op)) r (own-worker flow sender known)

different_one : (flow : List Operator) (input : ℕ) → are_different (flat_map (workers_of flow) (input ∷ [])) ≡ true
different_one flow input = ap are_different (append-nil (workers_of flow input)) ∙ different-workers flow input

different_feeders : (flow : List Operator) → IsFlow flow → (op : ℕ) → 0 < op → op ≤ length flow → are_different (feeders_of flow op) ≡ true
unfolding feeders_of
different_feeders flow is op some within = by (what_at flow op) refl
  where
    by : (kind : What) → what_at flow op ≡ kind → are_different (flat_map (workers_of flow) (inputs_of kind)) ≡ true
    by (what.Scan file) e = refl
    by (what.Filter input test) e = different_one flow input
    by (what.Project input from) e = different_one flow input
    by (what.Join build probe build_keys probe_keys) e =
        different-both (workers_of flow build) (flat_map (workers_of flow) (probe ∷ [])) (different-workers flow build) (different_one flow probe)
        (λ n h k. sides-differ flow is op build probe build_keys probe_keys some within e
        (sym (worker-op flow build n h) ∙ worker-op flow probe n (ap (among n) (sym (append-nil (workers_of flow probe))) ∙ k)))
    by (what.Group input keys aggs) e = different_one flow input
    by (what.Sink input) e = different_one flow input

sends_parts : (flow : List Operator) (op worker sender : ℕ) → op_of flow worker ≡ op → sends_to flow sender worker ≡ true
    → reads (what_at flow op) (op_of flow sender) ≡ true
unfolding sends_to
sends_parts flow op worker sender e h =
    ap (λ k. reads (what_at flow k) (op_of flow sender)) (sym e) ∙ (and_parts (reads (what_at flow (op_of flow worker)) (op_of flow sender)) _ h).0

-- the senders of a worker are those that feed its operator and send to it
pub senders-feed : (flow : List Operator) → IsFlow flow → (op worker : ℕ) → 0 < op → op ≤ length flow → among worker (workers_of flow op) ≡ true
    → Same (senders_of flow worker) (filter (λ sender. sends_to flow sender worker) (feeders_of flow op))
unfolding senders_of
senders-feed flow is op worker some within mine =
    let test = λ (sender : ℕ). sends_to flow sender worker in
    let own : op_of flow worker ≡ op = worker-op flow op worker mine in
    same-members (filter test (numbers_below (crew_of flow))) (filter test (feeders_of flow op))
    (different-kept test (numbers_below (crew_of flow)) (different-below (crew_of flow)))
    (different-kept test (feeders_of flow op) (different_feeders flow is op some within))
    (λ sender h.
    let both = kept-among test sender (numbers_below (crew_of flow)) h in
    among-kept test sender (feeders_of flow op)
    (reads-feeder flow op sender (below-in (crew_of flow) sender both.0) (sends_parts flow op worker sender own both.1)) both.1)
    (λ sender h.
    let both = kept-among test sender (feeders_of flow op) h in
    among-kept test sender (numbers_below (crew_of flow)) (in-below (crew_of flow) sender (feeder-reads flow op sender both.0).0) both.1)

-- ---- where a row goes

-- a row of a feeder goes to a worker of the operator
receiver_in : (flow : List Operator) → IsFlow flow → (op sender : ℕ) (row : List Value) → 0 < op → op ≤ length flow → among sender (feeders_of flow op) ≡ true
    → among (receiver_of flow sender row) (workers_of flow op) ≡ true
unfolding receiver_of follower_of keyed_receiver_of route_of
receiver_in flow is op sender row some within h =
    let reader : reader_of flow (op_of flow sender) ≡ op = reader-is flow is op (op_of flow sender) some within (feeder-reads flow op sender h).1 in
    let workers : 0 < worker_count flow op = some-workers flow is op some within in
    let op_here = op_of flow sender in
    let keyed = route_of (key_bytes_of (side_keys (what_at flow op) op_here) row) (worker_count flow op) in
    let place = (sender - first_worker_of flow op_here) % worker_count flow op in
    rw reader (by keyed place (mod-lt _ workers) (mod-lt _ workers) (is_keyed (what_at flow op)))
  where
    by : (keyed place : ℕ) → keyed < worker_count flow op → place < worker_count flow op → (b : Bool)
        → among (cond b (first_worker_of flow op + keyed) (first_worker_of flow op + place)) (workers_of flow op) ≡ true
    by keyed place h k true = place-worker flow op keyed h
    by keyed place h k false = place-worker flow op place k

-- a row that does not go by its key goes to the worker that follows its sender
not_followed : (flow : List Operator) → IsFlow flow → (op worker sender : ℕ) (row : List Value) → 0 < op → op ≤ length flow → among worker (workers_of flow op) ≡ true
    → among sender (feeders_of flow op) ≡ true → sends_to flow sender worker ≡ false → eqb (receiver_of flow sender row) worker ≡ false
unfolding receiver_of sends_to
not_followed flow is op worker sender row some within mine h unsent =
    let feeds = feeder-reads flow op sender h in
    let reader : reader_of flow (op_of flow sender) ≡ op = reader-is flow is op (op_of flow sender) some within feeds.1 in
    let own : op_of flow worker ≡ op = worker-op flow op worker mine in
    let none : (is_keyed (what_at flow op) || eqb (follower_of flow sender) worker) ≡ false =
    sym (ap (λ b. b && (is_keyed (what_at flow op) || eqb (follower_of flow sender) worker)) feeds.1)
    ∙ ap (λ k. reads (what_at flow k) (op_of flow sender) && (is_keyed (what_at flow k) || eqb (follower_of flow sender) worker)) (sym own) ∙ unsent in
    let parts = or_parts (is_keyed (what_at flow op)) (eqb (follower_of flow sender) worker) none in
    rw (reader, parts.0) parts.1

-- ---- what is given to all workers of an operator

-- a row, or nothing for a record with a fault
abbrev pub row_part : Result (List Value) RowFault → List Value
row_part (Ok row) = row
row_part (Err why) = []

-- the worker that gets what is handed to the workers of an operator
abbrev pub scan_route : List Operator → ℕ → Arrival → ℕ
scan_route flow op one = first_worker_of flow op + turn_of (worker_count flow op) one.from

abbrev pub row_route : List Operator → Arrival → ℕ
row_route flow one = receiver_of flow one.from (row_part one.what)

-- what the workers of an operator that is no scan are given, one feeder after the other
unfoldable pub fed_by : (ℕ → List (List Value)) → List ℕ → List Arrival
fed_by dealt feeders = flat_map (λ sender. arrivals_from sender (dealt sender)) feeders

pub share-scan : (kind : What) (share arrivals : List Arrival) → is_scan kind ≡ true → share_or kind share arrivals ≡ share
share-scan kind share arrivals e = rw e refl

pub share-rows : (kind : What) (share arrivals : List Arrival) → is_scan kind ≡ false → share_or kind share arrivals ≡ arrivals
share-rows kind share arrivals e = rw e refl

-- ---- scans

-- a scan's worker is given the records whose turn is its own
pub scan-given : (query : Query) (dealt : ℕ → List (List Value)) (op worker : ℕ) → is_scan (what_at query.flow op) ≡ true
    → among worker (workers_of query.flow op) ≡ true
    → total_arrivals query dealt worker ≡ sent_to (scan_route query.flow op) (with_numbers numbered_record 1 (list_at query.records op)) worker
unfolding total_arrivals role_of share_of task_of
scan-given query dealt op worker scan mine =
    let own : op_of query.flow worker ≡ op = worker-op query.flow op worker mine in
    let low = (worker-within query.flow op worker mine).0 in
    let count = worker_count query.flow op in
    let first = first_worker_of query.flow op in
    rw own (
    share-scan (what_at query.flow op) (filter (λ one. eqb (turn_of count one.from) (worker - first)) (with_numbers numbered_record 1 (list_at query.records op))) _ scan
    ∙ filter_agree (λ one. eqb (turn_of count one.from) (worker - first)) (λ one. eqb (first + turn_of count one.from) worker)
    (λ one. by first (turn_of count one.from) worker low) (with_numbers numbered_record 1 (list_at query.records op))
    )
  where
    by : (first turn worker : ℕ) → first ≤ worker → eqb turn (worker - first) ≡ eqb (first + turn) worker
    by first turn worker low =
        elim (cases_Bool (eqb (first + turn) worker)) [
          | inl e ↦ let same = eqb-true (first + turn) worker e in eq-eqb turn (worker - first) (omega (arith, same)) ∙ sym e
          | inr e ↦ ne_eqb turn (worker - first) (λ same. eqb-false (first + turn) worker e (omega (arith, same, low))) ∙ sym e
        ]

pub scan-routed : (query : Query) → IsFlow query.flow → (op : ℕ) → 0 < op → op ≤ length query.flow → (all : List Arrival)
    → list_all (λ one. among (scan_route query.flow op one) (workers_of query.flow op)) all ≡ true
scan-routed query is op some within all =
    list_all-every (λ one. among (scan_route query.flow op one) (workers_of query.flow op)) all
    (λ one. place-worker query.flow op (turn_of (worker_count query.flow op) one.from) (mod-lt (one.from - 1) (some-workers query.flow is op some within)))

-- ---- the others

pub filter_flat : {X : Type 0} (test : X → Bool) (f : ℕ → List X) (ns : List ℕ) → filter test (flat_map f ns) ≡ flat_map (λ n. filter test (f n)) ns
filter_flat test f [] = refl
filter_flat test f (n ∷ ns) = filter-append test (f n) (flat_map f ns) ∙ ap (λ l. filter test (f n) ++ l) (filter_flat test f ns)

pub filter_arrivals : (flow : List Operator) (sender worker : ℕ) (rows : List (List Value))
    → sent_to (row_route flow) (arrivals_from sender rows) worker ≡ arrivals_from sender (filter (λ row. eqb (receiver_of flow sender row) worker) rows)
filter_arrivals flow sender worker [] = refl
filter_arrivals flow sender worker (row ∷ rows) = by (eqb (receiver_of flow sender row) worker) (filter_arrivals flow sender worker rows)
  where
    kept : List (List Value)
    kept = filter (λ one. eqb (receiver_of flow sender one) worker) rows

    one : Arrival
    one = record { from = sender; what = Ok row }

    by : (b : Bool) → sent_to (row_route flow) (arrivals_from sender rows) worker ≡ arrivals_from sender kept
        → cond b (one ∷ sent_to (row_route flow) (arrivals_from sender rows) worker) (sent_to (row_route flow) (arrivals_from sender rows) worker)
        ≡ arrivals_from sender (cond b (row ∷ kept) kept)
    by true e = ap (λ l. one ∷ l) e
    by false e = e

none_kept : {X : Type 0} (test : X → Bool) (xs : List X) → ((x : X) → test x ≡ false) → filter test xs ≡ []
none_kept test [] h = refl
none_kept test (x ∷ xs) h = rw (h x) (none_kept test xs h)

-- who does not send has nothing to give
only_senders : {X : Type 0} (f : ℕ → List X) (test : ℕ → Bool) (ns : List ℕ) → ((n : ℕ) → among n ns ≡ true → test n ≡ false → f n ≡ [])
    → flat_map f (filter test ns) ≡ flat_map f ns
only_senders f test [] h = refl
only_senders f test (n ∷ ns) h = by (test n) refl (only_senders f test ns (λ m k. h m (among-more m n ns k)))
  where
    by : (b : Bool) → test n ≡ b → flat_map f (filter test ns) ≡ flat_map f ns → flat_map f (cond b (n ∷ filter test ns) (filter test ns)) ≡ f n ++ flat_map f ns
    by true e rest = ap (λ l. f n ++ l) rest
    by false e rest = rw (h n (among-first n ns) e) rest

-- a worker is given the rows of the feeders that go to it
pub rows-given : (query : Query) → IsFlow query.flow → (dealt : ℕ → List (List Value)) (op worker : ℕ) → 0 < op → op ≤ length query.flow
    → is_scan (what_at query.flow op) ≡ false → among worker (workers_of query.flow op) ≡ true
    → Same (total_arrivals query dealt worker) (sent_to (row_route query.flow) (fed_by dealt (feeders_of query.flow op)) worker)
unfolding total_arrivals role_of task_of fed_by
rows-given query is dealt op worker some within rows mine =
    let flow = query.flow in
    let own : op_of flow worker ≡ op = worker-op flow op worker mine in
    let f = λ (sender : ℕ). arrivals_from sender (dealt_stream query dealt worker sender) in
    let test = λ (sender : ℕ). sends_to flow sender worker in
    let feeders = feeders_of flow op in
    let whole : flat_map f (filter test feeders) ≡ sent_to (row_route flow) (flat_map (λ sender. arrivals_from sender (dealt sender)) feeders) worker =
    only_senders f test feeders (λ sender h e. ap (arrivals_from sender)
    (none_kept (λ row. eqb (receiver_of flow sender row) worker) (dealt sender) (λ row. not_followed flow is op worker sender row some within mine h e)))
    ∙ equal-among f (λ sender. sent_to (row_route flow) (arrivals_from sender (dealt sender)) worker) feeders
    (λ sender h. sym (filter_arrivals flow sender worker (dealt sender)))
    ∙ sym (filter_flat (λ one. eqb (row_route flow one) worker) (λ sender. arrivals_from sender (dealt sender)) feeders) in
    rw (own, share-rows (what_at flow op) (share_of record_number (worker_count flow op) (worker - first_worker_of flow op) (with_numbers numbered_record 1 (list_at query.records op))) (flat_map f (senders_of flow worker)) rows)
    (Join (flat_map f (senders_of flow worker)) (flat_map f (filter test feeders)) (sent_to (row_route flow) (flat_map (λ sender. arrivals_from sender (dealt sender)) feeders) worker)
    (same-flat_map f (senders-feed flow is op worker some within mine))
    (same-is (flat_map f (filter test feeders)) (sent_to (row_route flow) (flat_map (λ sender. arrivals_from sender (dealt sender)) feeders) worker) whole))

arrivals_routed : (flow : List Operator) → IsFlow flow → (op sender : ℕ) → 0 < op → op ≤ length flow → among sender (feeders_of flow op) ≡ true → (rows : List (List Value))
    → list_all (λ one. among (row_route flow one) (workers_of flow op)) (arrivals_from sender rows) ≡ true
arrivals_routed flow is op sender some within h [] = refl
arrivals_routed flow is op sender some within h (row ∷ rows) =
    and_from _ _ (receiver_in flow is op sender row some within h) (arrivals_routed flow is op sender some within h rows)

flat_all : {X : Type 0} (test : X → Bool) (f : ℕ → List X) (ns : List ℕ) → ((n : ℕ) → among n ns ≡ true → list_all test (f n) ≡ true) → list_all test (flat_map f ns) ≡ true
flat_all test f [] h = refl
flat_all test f (n ∷ ns) h =
    list_all-append test (f n) (flat_map f ns)
    ∙ and_from (list_all test (f n)) (list_all test (flat_map f ns)) (h n (among-first n ns)) (flat_all test f ns (λ m k. h m (among-more m n ns k)))

pub rows-routed : (query : Query) → IsFlow query.flow → (dealt : ℕ → List (List Value)) (op : ℕ) → 0 < op → op ≤ length query.flow
    → list_all (λ one. among (row_route query.flow one) (workers_of query.flow op)) (fed_by dealt (feeders_of query.flow op)) ≡ true
unfolding fed_by
rows-routed query is dealt op some within =
    flat_all (λ one. among (row_route query.flow one) (workers_of query.flow op)) (λ sender. arrivals_from sender (dealt sender)) (feeders_of query.flow op)
    (λ sender h. arrivals_routed query.flow is op sender some within h (dealt sender))

-- ---- all workers together

-- a scan's workers are given its records
pub scan-whole : (query : Query) → IsFlow query.flow → (dealt : ℕ → List (List Value)) (op : ℕ) → 0 < op → op ≤ length query.flow
    → is_scan (what_at query.flow op) ≡ true
    → Same (flat_map (total_arrivals query dealt) (workers_of query.flow op)) (with_numbers numbered_record 1 (list_at query.records op))
scan-whole query is dealt op some within scan =
    let all = with_numbers numbered_record 1 (list_at query.records op) in
    let workers = workers_of query.flow op in
    Join (flat_map (total_arrivals query dealt) workers) (flat_map (sent_to (scan_route query.flow op) all) workers) all
    (same-among (total_arrivals query dealt) (sent_to (scan_route query.flow op) all) workers
    (λ worker mine. same-is (total_arrivals query dealt worker) (sent_to (scan_route query.flow op) all worker) (scan-given query dealt op worker scan mine)))
    (same-dealt (scan_route query.flow op) workers (different-workers query.flow op) all (scan-routed query is op some within all))

-- the workers of another operator are given what its feeders give
pub rows-whole : (query : Query) → IsFlow query.flow → (dealt : ℕ → List (List Value)) (op : ℕ) → 0 < op → op ≤ length query.flow
    → is_scan (what_at query.flow op) ≡ false
    → Same (flat_map (total_arrivals query dealt) (workers_of query.flow op)) (fed_by dealt (feeders_of query.flow op))
rows-whole query is dealt op some within rows =
    let all = fed_by dealt (feeders_of query.flow op) in
    let workers = workers_of query.flow op in
    Join (flat_map (total_arrivals query dealt) workers) (flat_map (sent_to (row_route query.flow) all) workers) all
    (same-among (total_arrivals query dealt) (sent_to (row_route query.flow) all) workers (λ worker mine. rows-given query is dealt op worker some within rows mine))
    (same-dealt (row_route query.flow) workers (different-workers query.flow op) all (rows-routed query is dealt op some within))
