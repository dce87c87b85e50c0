-- The answer in a state in which all workers have finished, from what they were given together.
use Rattle.std.proofs.Common.{◌≡◌, ℕ, zero, suc, ◌+◌, ◌-◌, ◌<◌, ◌≤◌, List, [], ◌∷◌, ◌++◌, length, map, take, drop, get_or, true, false, refl, sym, ap, ◌∙◌, arith, add-one}
use Rattle.std.specs.List.{flat_map}
use Rattle.std.proofs.lemmas.Bool.{eq-eqb, false≢true}
use Rattle.std.proofs.lemmas.List.{append-nil, get_or_default, map_push, nil_from_length}
use Rattle.std.proofs.lemmas.List.Concat.{flat_map-append}
use Rattle.amber_rows.specs.Lists.{numbers_below, list_at}
use Rattle.amber_rows.specs.Topology.{crew_of, reads, what_at, workers_of}
use Rattle.amber_rows.specs.FlowRules.{IsFlow}
use Rattle.amber_rows.specs.Columns.{columns_at}
use Rattle.amber_rows.specs.Kinds.{is_sink, is_scan}
use Rattle.amber_rows.specs.Operators.{refused_keys}
use Rattle.amber_rows.specs.Order.{sort_rows}
use Rattle.amber_rows.specs.declared.agg.Agg.{Agg}
use Rattle.amber_rows.specs.declared.value.Value.{Value}
use Rattle.amber_rows.specs.declared.flow.What.{What}
use Rattle.amber_rows.specs.declared.flow.What.TheVariants as what
use Rattle.amber_rows.specs.declared.flow.Operator.{Operator}
use Rattle.amber_meaning.specs.Legal.{Query, role_in}
use Rattle.amber_meaning.specs.Plain.{answer_from, outputs, refusals}
use Rattle.amber_meaning.specs.Kinds.{refused_by, rows_of, keys_refused}
use Rattle.amber_meaning.specs.Refused.{refused_groups, refused_records, refusal_in, refused_in}
use Rattle.amber_meaning.specs.Plan.{role_of, task_of}
use Rattle.amber_meaning.specs.State.{State, have_finished}
use Rattle.amber_meaning.specs.Stops.{op_numbers}
use Rattle.amber_meaning.specs.Task.{Arrival, Task, suiting, rows_in}
use Rattle.amber_meaning.specs.Total.{dealt_to, total_arrivals, arrivals_from}
use Rattle.amber_meaning.specs.Views.{answer_in, by_number, op_refuses, sink_rows, taken_by, taken_of, worker_refuses}
use Rattle.amber_meaning.specs.declared.answer.Refusal.{Refusal}
use Rattle.amber_meaning.specs.declared.answer.Refusal.TheVariants as refusal
use Rattle.amber_meaning.proofs.Numbers.{among, row-in}
use Rattle.amber_meaning.proofs.Operators.{list_at-is, nth-here, refusals-end, refusals-more, rows-before, rows-here}
use Rattle.amber_meaning.proofs.OneState.{position-get_or}
use Rattle.amber_meaning.proofs.Senders.{flows_send_forward}
use Rattle.amber_laws.proofs.Bags.{Same, Join, equal-among, same-among, same-filter_map, same-flat_map, same-length, same-self, same-sorted}
use Rattle.amber_laws.proofs.Counted.{all-at}
use Rattle.amber_meaning.proofs.Crews.{worker-known, worker-op}
use Rattle.amber_laws.proofs.Emitted.{finished-given, stands}
use Rattle.amber_meaning.proofs.Flows.{input-earlier, kind-there, sink-last, there}
use Rattle.amber_laws.proofs.Grouping.{refused_keys-same}
use Rattle.amber_laws.proofs.Links.{fed_by, feeders_of, rows-whole, scan-whole}
use Rattle.amber_laws.proofs.Reached.{IsRun}
use Rattle.amber_laws.proofs.Recorded.{ordered-same, records-ordered, records-refused}

-- ---- what the workers of an operator are given together: the keys that its groups refuse, and the rows of the sink

abbrev pub rows_given : Query → ℕ → List (List Value)
rows_given query worker = rows_in (role_in query worker).task (total_arrivals query (dealt_to query) worker)

abbrev pub plain_rows : Query → ℕ → List (List Value)
plain_rows query op = list_at (outputs query.records [] query.flow) op

pub record IsDealtOut (query : Query) : Type 0 where
  pub groups : (op input : ℕ) (keys : List ℕ) (aggs : List Agg) → 0 < op → op ≤ length query.flow → what_at query.flow op ≡ what.Group input keys aggs
      → Same (flat_map (λ worker. refused_keys keys aggs (rows_given query worker)) (workers_of query.flow op)) (refused_keys keys aggs (plain_rows query input))
  pub sink : (input : ℕ) → what_at query.flow (length query.flow) ≡ what.Sink input
      → Same (flat_map (rows_given query) (workers_of query.flow (length query.flow))) (plain_rows query input)

-- ---- what all workers of an operator have taken

-- all workers have finished
abbrev pub AreDone : Query → State → Type 0
AreDone query state = (worker : ℕ) → worker < crew_of query.flow → (stands state worker).finished ≡ true

pub all-done : (query : Query) (state : State) → IsRun query state → have_finished state ≡ true → AreDone query state
all-done query state run e worker less = rw (position-get_or state.positions worker) (all-at state.positions worker e (omega (arith, run.crew)))

-- a run in which all have finished
pub record IsDone (query : Query) (state : State) : Type 0 where
  pub flow : IsFlow query.flow
  pub run : IsRun query state
  pub done : AreDone query state

took-given : (query : Query) (state : State) → IsDone query state → (worker : ℕ) → worker < crew_of query.flow
    → Same (taken_of (role_in query worker) (stands state worker)) (total_arrivals query (dealt_to query) worker)
took-given query state h worker less = finished-given query state (flows_send_forward query.flow h.flow) h.run worker less (h.done worker less)

taken-together : (query : Query) (state : State) → IsDone query state → (op : ℕ)
    → Same (taken_by query state op) (flat_map (total_arrivals query (dealt_to query)) (workers_of query.flow op))
unfolding taken_by
taken-together query state h op =
    same-among (λ worker. taken_of (role_in query worker) (stands state worker)) (total_arrivals query (dealt_to query)) (workers_of query.flow op)
    (λ worker mine. took-given query state h worker (worker-known query.flow op worker mine))

role-kind : (query : Query) (op worker : ℕ) → among worker (workers_of query.flow op) ≡ true → (role_in query worker).task.kind ≡ what_at query.flow op
unfolding role_of task_of
role-kind query op worker mine = ap (what_at query.flow) (worker-op query.flow op worker mine)

-- ---- refused records

same-none : {A : Type 0} (xs ys : List A) → Same xs ys → ys ≡ [] → xs ≡ []
same-none xs ys h e = nil_from_length xs (same-length h ∙ ap length e)

scan-refuses : (query : Query) (state : State) → IsDone query state → (op : ℕ) → 0 < op → op ≤ length query.flow → is_scan (what_at query.flow op) ≡ true
    → refused_in op (by_number (taken_by query state op)) ≡ refused_records op 1 (list_at query.records op)
scan-refuses query state h op some within scan =
    let all = Join _ _ _ (taken-together query state h op) (scan-whole query h.flow (dealt_to query) op some within scan) in
    ap (refused_in op) (records-ordered (list_at query.records op) (taken_by query state op) all) ∙ records-refused op (list_at query.records op) 1

rows-fine : (op sender : ℕ) (rows : List (List Value)) → flat_map (λ (one : Arrival). refusal_in op one.from one.what) (arrivals_from sender rows) ≡ []
rows-fine op sender [] = refl
rows-fine op sender (row ∷ rows) = rows-fine op sender rows

fed-fine : (op : ℕ) (dealt : ℕ → List (List Value)) (feeders : List ℕ) → refused_in op (fed_by dealt feeders) ≡ []
unfolding fed_by
fed-fine op dealt [] = refl
fed-fine op dealt (sender ∷ feeders) =
    flat_map-append (λ (one : Arrival). refusal_in op one.from one.what) (arrivals_from sender (dealt sender)) (flat_map (λ sender. arrivals_from sender (dealt sender)) feeders)
    ∙ rw (rows-fine op sender (dealt sender)) (fed-fine op dealt feeders)

others-refuse : (query : Query) (state : State) → IsDone query state → (op : ℕ) → 0 < op → op ≤ length query.flow → is_scan (what_at query.flow op) ≡ false
    → refused_in op (by_number (taken_by query state op)) ≡ []
others-refuse query state h op some within rows =
    let all = Join _ _ _ (taken-together query state h op) (rows-whole query h.flow (dealt_to query) op some within rows) in
    let ordered = Join _ _ _ (ordered-same (taken_by query state op)) all in
    same-none (refused_in op (by_number (taken_by query state op))) (refused_in op (fed_by (dealt_to query) (feeders_of query.flow op)))
    (same-flat_map (λ (one : Arrival). refusal_in op one.from one.what) ordered) (fed-fine op (dealt_to query) (feeders_of query.flow op))

-- ---- refused keys

keys-same : (kind : What) (task : Task) {xs ys : List Arrival} → Same xs ys → Same (keys_refused kind task xs) (keys_refused kind task ys)
keys-same (what.Scan file) task h = same-self []
keys-same (what.Filter input cond) task h = same-self []
keys-same (what.Project input columns) task h = same-self []
keys-same (what.Join build probe build_keys probe_keys) task h = same-self []
keys-same (what.Group input keys aggs) task h = refused_keys-same keys aggs (same-filter_map (suiting task) h)
keys-same (what.Sink input) task h = same-self []

keys-together : (query : Query) (state : State) → IsDone query state → (op : ℕ) (kind : What) → what_at query.flow op ≡ kind
    → Same (flat_map (λ worker. worker_refuses (role_in query worker) (stands state worker)) (workers_of query.flow op))
    (flat_map (λ worker. keys_refused kind (role_in query worker).task (total_arrivals query (dealt_to query) worker)) (workers_of query.flow op))
keys-together query state h op kind e =
    same-among (λ worker. worker_refuses (role_in query worker) (stands state worker))
    (λ worker. keys_refused kind (role_in query worker).task (total_arrivals query (dealt_to query) worker)) (workers_of query.flow op)
    (λ worker mine.
    let task : Task = (role_in query worker).task in
    let own : task.kind ≡ kind = role-kind query op worker mine ∙ e in
    rw (ap (λ k. keys_refused k task (taken_of (role_in query worker) (stands state worker))) own)
    (keys-same kind task (took-given query state h worker (worker-known query.flow op worker mine))))

nothing-refused : (ns : List ℕ) → flat_map {A = List Value} (λ (n : ℕ). []) ns ≡ []
nothing-refused [] = refl
nothing-refused (n ∷ ns) = nothing-refused ns

no-groups : (op : ℕ) → refused_groups op [] ≡ []
unfolding sort_rows
no-groups op = refl

none-group_result : (query : Query) (state : State) (op : ℕ)
    → Same (flat_map (λ worker. worker_refuses (role_in query worker) (stands state worker)) (workers_of query.flow op)) (flat_map {A = List Value} (λ (n : ℕ). []) (workers_of query.flow op))
    → refused_groups op (flat_map (λ worker. worker_refuses (role_in query worker) (stands state worker)) (workers_of query.flow op)) ≡ []
none-group_result query state op h =
    ap (refused_groups op)
    (same-none (flat_map (λ worker. worker_refuses (role_in query worker) (stands state worker)) (workers_of query.flow op))
    (flat_map {A = List Value} (λ (n : ℕ). []) (workers_of query.flow op)) h (nothing-refused (workers_of query.flow op)))
    ∙ no-groups op

-- ---- one operator

op-refuses : (query : Query) (state : State) → IsDone query state → IsDealtOut query → (op : ℕ) → 0 < op → op ≤ length query.flow
    → op_refuses query state op ≡ refused_by op (what_at query.flow op) (list_at query.records op) (outputs query.records [] query.flow)
op-refuses query state h out op some within = by (what_at query.flow op) refl
  where
    others : (kind : What) → what_at query.flow op ≡ kind → is_scan kind ≡ false
        → Same (flat_map (λ worker. worker_refuses (role_in query worker) (stands state worker)) (workers_of query.flow op)) (flat_map {A = List Value} (λ (n : ℕ). []) (workers_of query.flow op))
        → op_refuses query state op ≡ []
    others kind e rows none = rw (others-refuse query state h op some within (ap is_scan e ∙ rows)) (none-group_result query state op none)

    by : (kind : What) → what_at query.flow op ≡ kind → op_refuses query state op ≡ refused_by op kind (list_at query.records op) (outputs query.records [] query.flow)
    by (what.Scan file) e =
        rw (none-group_result query state op (keys-together query state h op (what.Scan file) e), append-nil (refused_in op (by_number (taken_by query state op))))
        (scan-refuses query state h op some within (ap is_scan e))
    by (what.Filter input cond) e = others (what.Filter input cond) e refl (keys-together query state h op (what.Filter input cond) e)
    by (what.Project input columns) e = others (what.Project input columns) e refl (keys-together query state h op (what.Project input columns) e)
    by (what.Join build probe build_keys probe_keys) e = others (what.Join build probe build_keys probe_keys) e refl (keys-together query state h op (what.Join build probe build_keys probe_keys) e)
    by (what.Group input keys aggs) e =
        let keys-all = Join _ _ _ (keys-together query state h op (what.Group input keys aggs) e) (out.groups op input keys aggs some within e) in
        rw (others-refuse query state h op some within (ap is_scan e)) (ap (map (refusal.Group op)) (same-sorted keys-all))
    by (what.Sink input) e = others (what.Sink input) e refl (keys-together query state h op (what.Sink input) e)

-- ---- all operators

-- what an operator refuses, by its number
abbrev refused_at : Query → ℕ → List Refusal
refused_at query op = refused_by op (what_at query.flow op) (list_at query.records op) (outputs query.records [] query.flow)

refused-here : (query : Query) (i : ℕ) (o : Operator) → i < length query.flow → o ≡ get_or query.flow i o
    → refused_at query (i + 1) ≡ refused_by (i + 1) o.what (get_or query.records i []) (outputs query.records [] query.flow)
refused-here query i o h e =
    let less : i + 1 - 1 ≡ i = omega arith in
    rw (nth-here query.flow i o h e, list_at-is query.records (i + 1) (omega arith), less) refl

refusals-so_far : (query : Query) (d : Operator) (i : ℕ) → i ≤ length query.flow
    → refusals 1 query.records (outputs query.records [] query.flow) query.flow
    ≡ flat_map (refused_at query) (map suc (numbers_below i)) ++ refusals (i + 1) (drop i query.records) (outputs query.records [] query.flow) (drop i query.flow)
unfolding numbers_below
refusals-so_far query d zero h = refl
refusals-so_far query d (suc i) h =
    let all = outputs query.records [] query.flow in
    let old : List Refusal = flat_map (refused_at query) (map suc (numbers_below i)) in
    let o : Operator = get_or query.flow i d in
    let here : o ≡ get_or query.flow i o = get_or_default query.flow i d o (omega arith) in
    let grown : flat_map (refused_at query) (map suc (numbers_below i ++ i ∷ [])) ≡ old ++ refused_by (i + 1) o.what (get_or query.records i []) all =
    ap (flat_map (refused_at query)) (map_push suc (numbers_below i) i)
    ∙ flat_map-append (refused_at query) (map suc (numbers_below i)) (suc i ∷ [])
    ∙ ap (λ l. old ++ l) (append-nil (refused_at query (suc i)) ∙ ap (refused_at query) (sym (add-one i)) ∙ refused-here query i o (omega arith) here) in
    let next = refusals-more query.records all query.flow i o (refusals 1 query.records all query.flow) old
    (flat_map (refused_at query) (map suc (numbers_below i ++ i ∷ []))) (omega arith) here (refusals-so_far query d i (omega arith)) grown in
    rw (← add-one i) next

pub refusals-by_op : (query : Query) → 0 < length query.flow
    → flat_map (refused_at query) (op_numbers query.flow) ≡ refusals 1 query.records (outputs query.records [] query.flow) query.flow
refusals-by_op query some = by query.flow refl
  where
    by : (flow : List Operator) → query.flow ≡ flow
        → flat_map (refused_at query) (op_numbers query.flow) ≡ refusals 1 query.records (outputs query.records [] query.flow) query.flow
    by [] e = absurd (omega (arith, ap length e))
    by (o ∷ flow) e =
        refusals-end query.records (outputs query.records [] query.flow) query.flow (length query.flow)
        (refusals 1 query.records (outputs query.records [] query.flow) query.flow) (flat_map (refused_at query) (op_numbers query.flow)) (omega arith)
        (refusals-so_far query o (length query.flow) (omega arith))

refused-together : (query : Query) (state : State) → IsDone query state → IsDealtOut query
    → flat_map (op_refuses query state) (op_numbers query.flow) ≡ refusals 1 query.records (outputs query.records [] query.flow) query.flow
refused-together query state h out =
    equal-among (op_refuses query state) (refused_at query) (op_numbers query.flow)
    (λ op known.
    let place = row-in suc (length query.flow) op known in
    op-refuses query state h out op (omega (arith, place.2)) (omega (arith, place.1, place.2)))
    ∙ refusals-by_op query (omega (arith, h.flow.some))

-- ---- the sink

sink-plain : (query : Query) → IsFlow query.flow → (input : ℕ) → what_at query.flow (length query.flow) ≡ what.Sink input
    → plain_rows query (length query.flow) ≡ sort_rows (plain_rows query input)
sink-plain query is input e =
    let flow = query.flow in
    let n : ℕ = length flow - 1 in
    let some : 0 < length flow = omega (arith, is.some) in
    let at = there flow is (length flow) some (omega arith) in
    let kind : at.operator.what ≡ what.Sink input = sym (kind-there flow (length flow) at) ∙ e in
    let read : reads (what_at flow (length flow)) input ≡ true = rw (e, eq-eqb input input refl) refl in
    let earlier = input-earlier flow is (length flow) input some (omega arith) read in
    list_at-is (outputs query.records [] flow) (length flow) some
    ∙ rows-here query.records flow n at.operator (omega arith) at.at
    ∙ ap (λ k. rows_of k (get_or query.records n []) (outputs query.records [] (take n flow))) kind
    ∙ ap sort_rows (rows-before query.records flow n input (omega arith) earlier.0 (omega (arith, earlier.1)))

sink-together : (query : Query) (state : State) → IsDone query state → IsDealtOut query → sink_rows query state ≡ plain_rows query (length query.flow)
sink-together query state h out = by (what_at query.flow (length query.flow)) refl (sink-last query.flow h.flow)
  where
    taken : List (List Value)
    taken = flat_map (λ worker. rows_in (role_in query worker).task (taken_of (role_in query worker) (stands state worker))) (workers_of query.flow (length query.flow))

    dealt : Same taken (flat_map (rows_given query) (workers_of query.flow (length query.flow)))
    dealt = same-among (λ worker. rows_in (role_in query worker).task (taken_of (role_in query worker) (stands state worker))) (rows_given query) (workers_of query.flow (length query.flow))
        (λ worker mine. same-filter_map (suiting (role_in query worker).task) (took-given query state h worker (worker-known query.flow (length query.flow) worker mine)))

    by : (kind : What) → what_at query.flow (length query.flow) ≡ kind → is_sink (what_at query.flow (length query.flow)) ≡ true → sort_rows taken ≡ plain_rows query (length query.flow)
    by (what.Scan file) e sink = absurd (false≢true (sym (ap is_sink e) ∙ sink))
    by (what.Filter input cond) e sink = absurd (false≢true (sym (ap is_sink e) ∙ sink))
    by (what.Project input columns) e sink = absurd (false≢true (sym (ap is_sink e) ∙ sink))
    by (what.Join build probe build_keys probe_keys) e sink = absurd (false≢true (sym (ap is_sink e) ∙ sink))
    by (what.Group input keys aggs) e sink = absurd (false≢true (sym (ap is_sink e) ∙ sink))
    by (what.Sink input) e sink = same-sorted (Join _ _ _ dealt (out.sink input e)) ∙ sym (sink-plain query h.flow input e)

-- ---- the answer

-- where all have finished the answer is the sequential one
pub answered : (query : Query) (state : State) → IsDone query state → IsDealtOut query → answer_in query state ≡ answer_from query.flow query.records
unfolding answer_in answer_from
answered query state h out =
    let refused = refused-together query state h out in
    let rows = sink-together query state h out in
    λ i. record { refused = refused i; columns = columns_at query.flow (length query.flow); rows = rows i }
