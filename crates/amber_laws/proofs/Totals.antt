-- The step total, operator by operator.
use Rattle.std.proofs.Common.{◌≡◌, ℕ, suc, ◌+◌, ◌-◌, ◌<◌, ◌≤◌, not, Bool, true, false, List, [], ◌∷◌, length, Result, if◌then◌else◌, refl, sym, ◌∙◌, ap, arith}
use Rattle.std.specs.List.{flat_map, sum_by}
use Rattle.std.proofs.lemmas.Bool.{and_parts, false≢true, not-true}
use Rattle.std.proofs.lemmas.List.{length-map}
use Rattle.std.proofs.lemmas.List.Concat.{length-flat_map}
use Rattle.std.proofs.lemmas.List.Sums.{sum_by-append, sum_by-cons}
use Rattle.amber_meaning.specs.Plan.{numbered_record}
use Rattle.amber_rows.specs.Lists.{numbers_below, list_at}
use Rattle.amber_rows.specs.Topology.{crew_of, op_of, what_at, workers_of}
use Rattle.amber_rows.specs.FlowRules.{IsFlow}
use Rattle.amber_rows.specs.Kinds.{inputs_of, is_scan}
use Rattle.amber_rows.specs.declared.flow.Operator.{Operator}
use Rattle.amber_rows.specs.declared.record.RowFault.{RowFault}
use Rattle.amber_rows.specs.declared.value.Value.{Value}
use Rattle.amber_meaning.specs.Legal.{Query, query_over}
use Rattle.amber_meaning.specs.Plain.{records_of}
use Rattle.amber_rows.specs.Shares.{with_numbers}
use Rattle.amber_meaning.specs.Stops.{op_numbers}
use Rattle.amber_meaning.specs.Total.{dealt_to, total_arrivals, arrivals_from, step_total, work_of}
use Rattle.amber_laws.proofs.Answered.{plain_rows}
use Rattle.amber_laws.proofs.Bags.{Same, same-length, same-sum, same_times}
use Rattle.amber_meaning.proofs.Numbers.{among, among-first, among-flat, among-more, are_different, below-in, different-below, different-both, different-row, in-below, in-row}
use Rattle.amber_meaning.proofs.Crews.{different-workers, op-within, own-worker, worker-known, worker-op}
use Rattle.amber_meaning.proofs.Flows.{input-earlier}
use Rattle.amber_laws.proofs.Links.{fed_by, feeders_of, flat_among, rows-whole, scan-whole}
use Rattle.amber_laws.proofs.Numbers.{same-members}
use Rattle.amber_laws.proofs.Sequential.{AreTyped, operators-together, typed-over}
use Rattle.amber_laws.specs.DealtLaws.{DealtRowsAreTheOperators, TakenRowsComeIn, TotalIsByOperator}

pub dealt_rows_are_the_operators : DealtRowsAreTheOperators
dealt_rows_are_the_operators flow files batch_size most op is some within row =
    same_times row (operators-together (query_over flow files batch_size most) is (typed-over flow files batch_size most is) op some within)

-- ---- the rows that are taken

sum-each : (f g : ℕ → ℕ) (ns : List ℕ) → ((n : ℕ) → among n ns ≡ true → f n ≡ g n) → sum_by f ns ≡ sum_by g ns
sum-each f g [] h = refl
sum-each f g (n ∷ ns) h =
    let first = h n (among-first n ns) in
    let later = sum-each f g ns (λ m k. h m (among-more m n ns k)) in
    omega (arith, sum_by-cons f n ns, sum_by-cons g n ns)

sum-flat : (f : ℕ → ℕ) (g : ℕ → List ℕ) (ns : List ℕ) → sum_by f (flat_map g ns) ≡ sum_by (λ n. sum_by f (g n)) ns
sum-flat f g [] = refl
sum-flat f g (n ∷ ns) =
    let later = sum-flat f g ns in
    omega (arith, sum_by-append f (g n) (flat_map g ns), sum_by-cons (λ n. sum_by f (g n)) n ns)

nth-length : (number : ℕ) (records : List (Result (List Value) RowFault)) → length (with_numbers numbered_record number records) ≡ length records
unfolding with_numbers
nth-length number [] = refl
nth-length number (one ∷ records) = ap suc (nth-length (number + 1) records)

scan-taken : (query : Query) (op : ℕ) → IsFlow query.flow → 0 < op → op ≤ length query.flow → is_scan (what_at query.flow op) ≡ true
    → sum_by (λ worker. length (total_arrivals query (dealt_to query) worker)) (workers_of query.flow op) ≡ length (list_at query.records op)
scan-taken query op is some within scan =
    sym (length-flat_map (total_arrivals query (dealt_to query)) (workers_of query.flow op))
    ∙ same-length (scan-whole query is (dealt_to query) op some within scan) ∙ nth-length 1 (list_at query.records op)

fed-length : (dealt : ℕ → List (List Value)) (feeders : List ℕ) → length (fed_by dealt feeders) ≡ sum_by (λ sender. length (dealt sender)) feeders
unfolding fed_by
fed-length dealt feeders =
    length-flat_map (λ sender. arrivals_from sender (dealt sender)) feeders
    ∙ sum-each (λ sender. length (arrivals_from sender (dealt sender))) (λ sender. length (dealt sender)) feeders (λ sender h. length-map (dealt sender) _)

-- the rows of an input's workers are its rows
input-length : (query : Query) (op : ℕ) → IsFlow query.flow → AreTyped query → 0 < op → op ≤ length query.flow → (input : ℕ) → among input (inputs_of (what_at query.flow op)) ≡ true
    → sum_by (λ sender. length (dealt_to query sender)) (workers_of query.flow input) ≡ length (plain_rows query input)
input-length query op is typed some within input r =
    let earlier = input-earlier query.flow is op input some within r in
    sym (length-flat_map (dealt_to query) (workers_of query.flow input))
    ∙ same-length (operators-together query is typed input earlier.0 (omega (arith, earlier.1, within)))

rows-taken : (query : Query) (op : ℕ) → IsFlow query.flow → AreTyped query → 0 < op → op ≤ length query.flow → is_scan (what_at query.flow op) ≡ false
    → sum_by (λ worker. length (total_arrivals query (dealt_to query) worker)) (workers_of query.flow op)
    ≡ sum_by (λ input. length (plain_rows query input)) (inputs_of (what_at query.flow op))
unfolding feeders_of
rows-taken query op is typed some within rows =
    sym (length-flat_map (total_arrivals query (dealt_to query)) (workers_of query.flow op))
    ∙ same-length (rows-whole query is (dealt_to query) op some within rows)
    ∙ fed-length (dealt_to query) (feeders_of query.flow op)
    ∙ sum-flat (λ sender. length (dealt_to query sender)) (workers_of query.flow) (inputs_of (what_at query.flow op))
    ∙ sum-each (λ input. sum_by (λ sender. length (dealt_to query sender)) (workers_of query.flow input)) (λ input. length (plain_rows query input)) (inputs_of (what_at query.flow op))
    (λ input r. input-length query op is typed some within input r)

pub taken_rows_come_in : TakenRowsComeIn
taken_rows_come_in flow files batch_size most op is some within = by (is_scan (what_at flow op)) refl
  where
    query : Query
    query = query_over flow files batch_size most

    by : (b : Bool) → is_scan (what_at flow op) ≡ b
        → sum_by (λ worker. length (total_arrivals query (dealt_to query) worker)) (workers_of flow op)
        ≡ (if b then length (list_at (records_of files flow) op) else sum_by (λ input. length (plain_rows query input)) (inputs_of (what_at flow op)))
    by true e = scan-taken query op is some within e
    by false e = rows-taken query op is (typed-over flow files batch_size most is) some within e

-- ---- all workers

different-crews : (flow : List Operator) (ops : List ℕ) → are_different ops ≡ true → are_different (flat_map (workers_of flow) ops) ≡ true
different-crews flow [] d = refl
different-crews flow (op ∷ ops) d =
    let parts = and_parts (not (among op ops)) (are_different ops) d in
    different-both (workers_of flow op) (flat_map (workers_of flow) ops) (different-workers flow op) (different-crews flow ops parts.1)
    (λ worker mine other.
    let found = flat_among (workers_of flow) worker ops other in
    let same : found.0 ≡ op = sym (worker-op flow found.0 worker found.2) ∙ worker-op flow op worker mine in
    false≢true (sym (not-true (among op ops) parts.0) ∙ ap (λ (n : ℕ). among n ops) (sym same) ∙ found.1))

next-one : (a b : ℕ) → suc a ≡ suc b → a ≡ b
next-one a b e = omega arith

every-worker : (flow : List Operator) → Same (numbers_below (crew_of flow)) (flat_map (workers_of flow) (op_numbers flow))
every-worker flow =
    same-members (numbers_below (crew_of flow)) (flat_map (workers_of flow) (op_numbers flow)) (different-below (crew_of flow))
    (different-crews flow (op_numbers flow) (different-row suc next-one (length flow)))
    (λ worker h.
    let known = below-in (crew_of flow) worker h in
    let place = op-within flow worker known in
    among-flat (workers_of flow) (op_of flow worker) worker (op_numbers flow) (nth (op_of flow worker) place.0 place.1) (own-worker flow worker known))
    (λ worker h. let found = flat_among (workers_of flow) worker (op_numbers flow) h in in-below (crew_of flow) worker (worker-known flow found.0 worker found.2))
  where
    nth : (op : ℕ) → 0 < op → op ≤ length flow → among op (op_numbers flow) ≡ true
    nth op some within =
        let next : suc (op - 1) ≡ op = omega arith in
        ap (λ (n : ℕ). among n (op_numbers flow)) (sym next) ∙ in-row suc (length flow) (op - 1) (omega arith)

pub total_is_by_operator : TotalIsByOperator
unfolding step_total
total_is_by_operator query =
    same-sum (work_of query) (every-worker query.flow) ∙ sum-flat (work_of query) (workers_of query.flow) (op_numbers query.flow)
