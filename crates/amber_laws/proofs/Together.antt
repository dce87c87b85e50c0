-- What the workers of an operator give together, from what the workers of its inputs give together.
use Rattle.std.proofs.Common.{◌≡◌, ℕ, ◌+◌, ◌<◌, ◌≤◌, ◌%◌, cond, eqb, Bool, true, false, List, [], ◌++◌, length, filter, refl, sym, ◌∙◌, ap, ◌⊎◌, inl, inr}
use Rattle.std.specs.List.{flat_map, list_all}
use Rattle.std.proofs.Math.Nat.{mod-lt}
use Rattle.std.proofs.lemmas.Bool.{both_ways, eq-eqb, false_from_ne_true, ne_eqb}
use Rattle.std.proofs.lemmas.List.{append-nil}
use Rattle.std.proofs.lemmas.List.Elements.{filter_agree}
use Rattle.amber_rows.specs.Cond.{holds_of}
use Rattle.amber_rows.specs.Topology.{first_worker_of, keyed_receiver_of, op_of, reader_of, receiver_of, what_at, worker_count, workers_of}
use Rattle.amber_rows.specs.Kinds.{is_keyed, side_keys, inputs_of, is_scan}
use Rattle.amber_rows.specs.FlowRules.{IsFlow}
use Rattle.amber_rows.specs.Columns.{columns_at}
use Rattle.amber_rows.specs.Operators.{group_result, join_result, pick_cells, project_result, refused_keys}
use Rattle.amber_rows.specs.Routing.{fnv_of, key_bytes_of, key_piece, route_of}
use Rattle.amber_rows.specs.Suits.{suits_of}
use Rattle.amber_rows.specs.declared.agg.Agg.{Agg}
use Rattle.amber_rows.specs.declared.cond.Cond.{Cond}
use Rattle.amber_rows.specs.declared.value.Value.{Value}
use Rattle.amber_rows.specs.declared.flow.What.{What}
use Rattle.amber_rows.specs.declared.flow.What.TheVariants as what
use Rattle.amber_rows.specs.declared.flow.Operator.{Operator}
use Rattle.amber_meaning.proofs.Numbers.{among, among-cases, among-left, among-right}
use Rattle.amber_meaning.proofs.Lists.{list_all-every}
use Rattle.amber_meaning.specs.Legal.{Query, role_in}
use Rattle.amber_meaning.specs.Plan.{task_of}
use Rattle.amber_meaning.specs.Task.{Arrival, Task, columns_from, suiting, rows_in}
use Rattle.amber_meaning.specs.Produce.{closing, yields}
use Rattle.amber_meaning.specs.Total.{dealt_to, total_arrivals, gives, arrivals_from}
use Rattle.amber_laws.proofs.Bags.{Same, Join, equal-among, same-among, same-filter_map, same-flat_map, same-is, sent_to}
use Rattle.amber_meaning.proofs.Crews.{different-workers, place-worker, worker-known, worker-op}
use Rattle.amber_laws.proofs.Dealt.{dealt-is}
use Rattle.amber_laws.proofs.Fed.{AreSuiting, filter-gives, group-gives, join-gives, project-gives, rows-fed}
use Rattle.amber_meaning.proofs.Flows.{reader-is, sides-differ, some-workers}
use Rattle.amber_laws.proofs.Given.{gives-keeps}
use Rattle.amber_laws.proofs.Grouping.{refused_keys-same}
use Rattle.amber_laws.proofs.Links.{fed_by, feeder-reads, feeders_of, filter_flat, filter_arrivals, row_route, rows-given, rows-whole}
use Rattle.amber_laws.proofs.Made.{dealt-suit, role-task, task_with}
use Rattle.amber_laws.proofs.Spread.{by_key, flat-flat, found-flat, group_result-spread, join_result-spread, refused-spread}
use Rattle.amber_laws.proofs.Suited.{all-kept}

-- ---- one worker

-- an operator of a workflow, and its kind
pub record IsOperator (query : Query) (op : ℕ) (kind : What) : Type 0 where
  pub flow : IsFlow query.flow
  pub some : 0 < op
  pub within : op ≤ length query.flow
  pub is : what_at query.flow op ≡ kind

task_is : (query : Query) (op : ℕ) (kind : What) → IsOperator query op kind → task_of query.flow op ≡ task_with query.flow op kind
unfolding task_of
task_is query op kind h = ap (task_with query.flow op) h.is

pub worker-task : (query : Query) (op : ℕ) (kind : What) (worker : ℕ) → IsOperator query op kind → among worker (workers_of query.flow op) ≡ true
    → (role_in query worker).task ≡ task_with query.flow op kind
worker-task query op kind worker h mine =
    role-task query worker ∙ ap (task_of query.flow) (worker-op query.flow op worker mine) ∙ task_is query op kind h

worker_gives : (query : Query) (op : ℕ) (kind : What) (worker : ℕ) → IsOperator query op kind → among worker (workers_of query.flow op) ≡ true
    → dealt_to query worker ≡ gives (task_with query.flow op kind) (total_arrivals query (dealt_to query) worker)
worker_gives query op kind worker h mine =
    dealt-is query h.flow worker (worker-known query.flow op worker mine)
    ∙ ap (λ task. gives task (total_arrivals query (dealt_to query) worker)) (worker-task query op kind worker h mine)

-- ---- rows that suit

input_suits : (query : Query) → IsFlow query.flow → (input sender : ℕ) → among sender (workers_of query.flow input) ≡ true
    → list_all (suits_of (columns_at query.flow input)) (dealt_to query sender) ≡ true
input_suits query is input sender h =
    ap (λ op. list_all (suits_of (columns_at query.flow op)) (dealt_to query sender)) (sym (worker-op query.flow input sender h))
    ∙ dealt-suit query is sender (worker-known query.flow input sender h)

-- the workers of the one input
abbrev pub only_input : List Operator → ℕ → List ℕ
only_input flow input = workers_of flow input ++ []

in_only : (flow : List Operator) (input sender : ℕ) → among sender (only_input flow input) ≡ true → among sender (workers_of flow input) ≡ true
in_only flow input sender h = ap (among sender) (sym (append-nil (workers_of flow input))) ∙ h

filter_suiting : (query : Query) (op input : ℕ) (test : Cond) → IsFlow query.flow
    → AreSuiting (task_with query.flow op (what.Filter input test)) (dealt_to query) (only_input query.flow input)
filter_suiting query op input test is sender h = input_suits query is input sender (in_only query.flow input sender h)

project_suiting : (query : Query) (op input : ℕ) (from : List ℕ) → IsFlow query.flow
    → AreSuiting (task_with query.flow op (what.Project input from)) (dealt_to query) (only_input query.flow input)
project_suiting query op input from is sender h = input_suits query is input sender (in_only query.flow input sender h)

group_suiting : (query : Query) (op input : ℕ) (keys : List ℕ) (aggs : List Agg) → IsFlow query.flow
    → AreSuiting (task_with query.flow op (what.Group input keys aggs)) (dealt_to query) (only_input query.flow input)
group_suiting query op input keys aggs is sender h = input_suits query is input sender (in_only query.flow input sender h)

sink_suiting : (query : Query) (op input : ℕ) → IsFlow query.flow → AreSuiting (task_with query.flow op (what.Sink input)) (dealt_to query) (only_input query.flow input)
sink_suiting query op input is sender h = input_suits query is input sender (in_only query.flow input sender h)

-- the workers of both inputs, the build side first
abbrev both_inputs : List Operator → ℕ → ℕ → List ℕ
both_inputs flow build probe = workers_of flow build ++ only_input flow probe

join_suiting : (query : Query) (op build probe : ℕ) (build_keys probe_keys : List ℕ) → IsFlow query.flow
    → AreSuiting (task_with query.flow op (what.Join build probe build_keys probe_keys)) (dealt_to query) (both_inputs query.flow build probe)
join_suiting query op build probe build_keys probe_keys is sender h =
    by (among sender (workers_of query.flow build)) refl (among-cases sender (workers_of query.flow build) (only_input query.flow probe) h)
  where
    by : (b : Bool) → among sender (workers_of query.flow build) ≡ b
        → (among sender (workers_of query.flow build) ≡ true) ⊎ (among sender (only_input query.flow probe) ≡ true)
        → list_all (suits_of (cond b (columns_at query.flow build) (columns_at query.flow probe))) (dealt_to query sender) ≡ true
    by true e side = input_suits query is build sender e
    by false e (inl side) = absurd (both_ways (among sender (workers_of query.flow build)) e side)
    by false e (inr side) = input_suits query is probe sender (in_only query.flow probe sender side)

apart_sides : (query : Query) (op build probe : ℕ) (build_keys probe_keys : List ℕ) → IsOperator query op (what.Join build probe build_keys probe_keys)
    → (sender : ℕ) → among sender (only_input query.flow probe) ≡ true → among sender (workers_of query.flow build) ≡ false
apart_sides query op build probe build_keys probe_keys h sender k =
    false_from_ne_true (among sender (workers_of query.flow build))
    (λ e. sides-differ query.flow h.flow op build probe build_keys probe_keys h.some h.within h.is
    (sym (worker-op query.flow build sender e) ∙ worker-op query.flow probe sender (in_only query.flow probe sender k)))

-- ---- kinds whose rows are made one by one

-- what the workers give together, where a task makes the same of each row, whatever else it is handed
pub one-by-one : (query : Query) (op : ℕ) (kind : What) → IsOperator query op kind → (make : Arrival → List (List Value))
    → ((arrivals : List Arrival) → gives (task_with query.flow op kind) arrivals ≡ flat_map make arrivals) → (all : List Arrival)
    → Same (flat_map (total_arrivals query (dealt_to query)) (workers_of query.flow op)) all
    → Same (flat_map (dealt_to query) (workers_of query.flow op)) (gives (task_with query.flow op kind) all)
one-by-one query op kind h make e all whole =
    let workers = workers_of query.flow op in
    let arrivals = total_arrivals query (dealt_to query) in
    let each : flat_map (dealt_to query) workers ≡ flat_map make (flat_map arrivals workers) =
    equal-among (dealt_to query) (λ worker. flat_map make (arrivals worker)) workers (λ worker mine. worker_gives query op kind worker h mine ∙ e (arrivals worker))
    ∙ flat-flat make arrivals workers in
    Join (flat_map (dealt_to query) workers) (flat_map make (flat_map arrivals workers)) (gives (task_with query.flow op kind) all)
    (same-is (flat_map (dealt_to query) workers) (flat_map make (flat_map arrivals workers)) each)
    (rw (e all) (same-flat_map make whole))

only_rows : (query : Query) (input : ℕ) → flat_map (dealt_to query) (only_input query.flow input) ≡ flat_map (dealt_to query) (workers_of query.flow input)
only_rows query input = ap (flat_map (dealt_to query)) (append-nil (workers_of query.flow input))

-- what a task makes of one row that looks at no other
abbrev alone : Task → Arrival → List (List Value)
alone task one = yields task [] one []

filter_alone : (flow : List Operator) (op input : ℕ) (test : Cond) (arrivals : List Arrival)
    → gives (task_with flow op (what.Filter input test)) arrivals ≡ flat_map (alone (task_with flow op (what.Filter input test))) arrivals
unfolding gives closing yields
filter_alone flow op input test arrivals = append-nil (flat_map (alone (task_with flow op (what.Filter input test))) arrivals)

project_alone : (flow : List Operator) (op input : ℕ) (from : List ℕ) (arrivals : List Arrival)
    → gives (task_with flow op (what.Project input from)) arrivals ≡ flat_map (alone (task_with flow op (what.Project input from))) arrivals
unfolding gives closing yields
project_alone flow op input from arrivals = append-nil (flat_map (alone (task_with flow op (what.Project input from))) arrivals)

feeders_are : (query : Query) (op : ℕ) (kind : What) → IsOperator query op kind → feeders_of query.flow op ≡ flat_map (workers_of query.flow) (inputs_of kind)
unfolding feeders_of
feeders_are query op kind h = ap (λ k. flat_map (workers_of query.flow) (inputs_of k)) h.is

pub whole_rows : (query : Query) (op : ℕ) (kind : What) → IsOperator query op kind → is_scan kind ≡ false
    → Same (flat_map (total_arrivals query (dealt_to query)) (workers_of query.flow op)) (fed_by (dealt_to query) (flat_map (workers_of query.flow) (inputs_of kind)))
whole_rows query op kind h rows =
    rw (← feeders_are query op kind h) (rows-whole query h.flow (dealt_to query) op h.some h.within (ap is_scan h.is ∙ rows))

pub filter-together : (query : Query) (op input : ℕ) (test : Cond) → IsOperator query op (what.Filter input test)
    → Same (flat_map (dealt_to query) (workers_of query.flow op)) (filter (holds_of test) (flat_map (dealt_to query) (workers_of query.flow input)))
filter-together query op input test h =
    let kind = what.Filter input test in
    let all = fed_by (dealt_to query) (only_input query.flow input) in
    Join (flat_map (dealt_to query) (workers_of query.flow op)) (gives (task_with query.flow op kind) all) _
    (one-by-one query op kind h (alone (task_with query.flow op kind)) (filter_alone query.flow op input test) all (whole_rows query op kind h refl))
    (same-is _ _ (filter-gives query.flow op input test (dealt_to query) (only_input query.flow input) (filter_suiting query op input test h.flow)
    ∙ ap (filter (holds_of test)) (only_rows query input)))

pub project-together : (query : Query) (op input : ℕ) (from : List ℕ) → IsOperator query op (what.Project input from)
    → Same (flat_map (dealt_to query) (workers_of query.flow op)) (project_result from (flat_map (dealt_to query) (workers_of query.flow input)))
project-together query op input from h =
    let kind = what.Project input from in
    let all = fed_by (dealt_to query) (only_input query.flow input) in
    Join (flat_map (dealt_to query) (workers_of query.flow op)) (gives (task_with query.flow op kind) all) _
    (one-by-one query op kind h (alone (task_with query.flow op kind)) (project_alone query.flow op input from) all (whole_rows query op kind h refl))
    (same-is _ _ (project-gives query.flow op input from (dealt_to query) (only_input query.flow input) (project_suiting query op input from h.flow)
    ∙ ap (project_result from) (only_rows query input)))

-- ---- kinds whose rows go by their keys

-- the worker of an operator to which a key goes
abbrev pub key_route : List Operator → ℕ → List Value → ℕ
key_route flow op key = first_worker_of flow op + route_of (flat_map key_piece key) (worker_count flow op)

keyed_receiver : (query : Query) (op : ℕ) (kind : What) → IsOperator query op kind → is_keyed kind ≡ true → (sender : ℕ)
    → among sender (flat_map (workers_of query.flow) (inputs_of kind)) ≡ true → (row : List Value)
    → receiver_of query.flow sender row ≡ by_key (key_route query.flow op) (side_keys kind (op_of query.flow sender)) row
unfolding receiver_of keyed_receiver_of key_bytes_of
keyed_receiver query op kind h keyed sender mine row =
    let feeds = feeder-reads query.flow op sender (ap (among sender) (feeders_are query op kind h) ∙ mine) in
    let reader : reader_of query.flow (op_of query.flow sender) ≡ op = reader-is query.flow h.flow op (op_of query.flow sender) h.some h.within feeds.1 in
    rw (reader, h.is, keyed) refl

routed : (query : Query) (op : ℕ) (kind : What) → IsOperator query op kind → (keys : List ℕ) (rows : List (List Value))
    → list_all (λ row. among (by_key (key_route query.flow op) keys row) (workers_of query.flow op)) rows ≡ true
unfolding route_of
routed query op kind h keys rows =
    list_all-every (λ row. among (by_key (key_route query.flow op) keys row) (workers_of query.flow op)) rows
    (λ row. place-worker query.flow op (fnv_of (flat_map key_piece (pick_cells keys row)) % worker_count query.flow op)
    (mod-lt (fnv_of (flat_map key_piece (pick_cells keys row))) (some-workers query.flow h.flow op h.some h.within)))

-- the rows of a sender that go to a worker
abbrev sent_rows : Query → ℕ → ℕ → List (List Value)
sent_rows query worker sender = filter (λ row. eqb (receiver_of query.flow sender row) worker) (dealt_to query sender)

sent_fed : (query : Query) (senders : List ℕ) (worker : ℕ)
    → sent_to (row_route query.flow) (fed_by (dealt_to query) senders) worker ≡ fed_by (sent_rows query worker) senders
unfolding fed_by
sent_fed query senders worker =
    filter_flat (λ one. eqb (row_route query.flow one) worker) (λ sender. arrivals_from sender (dealt_to query sender)) senders
    ∙ equal-among (λ sender. sent_to (row_route query.flow) (arrivals_from sender (dealt_to query sender)) worker) (λ sender. arrivals_from sender (sent_rows query worker sender)) senders
    (λ sender k. filter_arrivals query.flow sender worker (dealt_to query sender))

sent_suiting : (query : Query) (task : Task) (senders : List ℕ) (worker : ℕ) → AreSuiting task (dealt_to query) senders → AreSuiting task (sent_rows query worker) senders
sent_suiting query task senders worker h sender k =
    all-kept (suits_of (columns_from task sender)) (λ row. eqb (receiver_of query.flow sender row) worker) (dealt_to query sender) (h sender k)

-- the rows that go to a worker, of those of senders all of which have the same keys
sent_keyed : (query : Query) (route : List Value → ℕ) (keys : List ℕ) (senders : List ℕ) (worker : ℕ)
    → ((sender : ℕ) → among sender senders ≡ true → (row : List Value) → receiver_of query.flow sender row ≡ by_key route keys row)
    → flat_map (sent_rows query worker) senders ≡ sent_to (by_key route keys) (flat_map (dealt_to query) senders) worker
sent_keyed query route keys senders worker h =
    equal-among (sent_rows query worker) (λ sender. sent_to (by_key route keys) (dealt_to query sender) worker) senders
    (λ sender k. filter_agree (λ row. eqb (receiver_of query.flow sender row) worker) (λ row. eqb (by_key route keys row) worker)
    (λ row. ap (λ n. eqb n worker) (h sender k row)) (dealt_to query sender))
    ∙ sym (filter_flat (λ row. eqb (by_key route keys row) worker) (dealt_to query) senders)

-- what a worker is given, where rows go by their keys
keyed_given : (query : Query) (op : ℕ) (kind : What) (worker : ℕ) → IsOperator query op kind → is_scan kind ≡ false → among worker (workers_of query.flow op) ≡ true
    → Same (total_arrivals query (dealt_to query) worker) (fed_by (sent_rows query worker) (flat_map (workers_of query.flow) (inputs_of kind)))
keyed_given query op kind worker h rows mine =
    rw (← sent_fed query (flat_map (workers_of query.flow) (inputs_of kind)) worker, ← feeders_are query op kind h)
    (rows-given query h.flow (dealt_to query) op worker h.some h.within (ap is_scan h.is ∙ rows) mine)

keyed_gives : (query : Query) (op : ℕ) (kind : What) (worker : ℕ) → IsOperator query op kind → is_scan kind ≡ false → among worker (workers_of query.flow op) ≡ true
    → Same (dealt_to query worker) (gives (task_with query.flow op kind) (fed_by (sent_rows query worker) (flat_map (workers_of query.flow) (inputs_of kind))))
keyed_gives query op kind worker h rows mine =
    rw (worker_gives query op kind worker h mine) (gives-keeps (task_with query.flow op kind) (keyed_given query op kind worker h rows mine))

group_sent : (query : Query) (op input : ℕ) (keys : List ℕ) (aggs : List Agg) (worker : ℕ) → IsOperator query op (what.Group input keys aggs)
    → flat_map (sent_rows query worker) (only_input query.flow input)
    ≡ sent_to (by_key (key_route query.flow op) keys) (flat_map (dealt_to query) (only_input query.flow input)) worker
group_sent query op input keys aggs worker h =
    sent_keyed query (key_route query.flow op) keys (only_input query.flow input) worker
    (λ sender k row. keyed_receiver query op (what.Group input keys aggs) h refl sender k row)

pub group-together : (query : Query) (op input : ℕ) (keys : List ℕ) (aggs : List Agg) → IsOperator query op (what.Group input keys aggs)
    → Same (flat_map (dealt_to query) (workers_of query.flow op)) (group_result keys aggs (flat_map (dealt_to query) (workers_of query.flow input)))
group-together query op input keys aggs h =
    let kind = what.Group input keys aggs in
    let workers = workers_of query.flow op in
    let senders = only_input query.flow input in
    let rows = flat_map (dealt_to query) senders in
    let parts = λ (worker : ℕ). group_result keys aggs (sent_to (by_key (key_route query.flow op) keys) rows worker) in
    let each : Same (flat_map (dealt_to query) workers) (flat_map parts workers) =
    same-among (dealt_to query) parts workers (λ worker mine.
    Join (dealt_to query worker) (gives (task_with query.flow op kind) (fed_by (sent_rows query worker) senders)) (parts worker)
    (keyed_gives query op kind worker h refl mine)
    (same-is _ _ (group-gives query.flow op input keys aggs (sent_rows query worker) senders
    (sent_suiting query (task_with query.flow op kind) senders worker (group_suiting query op input keys aggs h.flow))
    ∙ ap (group_result keys aggs) (group_sent query op input keys aggs worker h)))) in
    rw (← only_rows query input)
    (Join (flat_map (dealt_to query) workers) (flat_map parts workers) (group_result keys aggs rows) each
    (group_result-spread keys aggs (key_route query.flow op) workers rows (different-workers query.flow op) (routed query op kind h keys rows)))

-- the keys that an operator's workers refuse
pub keys-together : (query : Query) (op input : ℕ) (keys : List ℕ) (aggs : List Agg) → IsOperator query op (what.Group input keys aggs)
    → Same (flat_map (λ worker. refused_keys keys aggs (rows_in (task_with query.flow op (what.Group input keys aggs)) (total_arrivals query (dealt_to query) worker))) (workers_of query.flow op))
    (refused_keys keys aggs (flat_map (dealt_to query) (workers_of query.flow input)))
keys-together query op input keys aggs h =
    let kind = what.Group input keys aggs in
    let task = task_with query.flow op kind in
    let workers = workers_of query.flow op in
    let senders = only_input query.flow input in
    let rows = flat_map (dealt_to query) senders in
    let whole = λ (worker : ℕ). refused_keys keys aggs (rows_in task (total_arrivals query (dealt_to query) worker)) in
    let parts = λ (worker : ℕ). refused_keys keys aggs (sent_to (by_key (key_route query.flow op) keys) rows worker) in
    let each : Same (flat_map whole workers) (flat_map parts workers) =
    same-among whole parts workers (λ worker mine.
    Join (whole worker) (refused_keys keys aggs (rows_in task (fed_by (sent_rows query worker) senders))) (parts worker)
    (refused_keys-same keys aggs (same-filter_map (suiting task) (keyed_given query op kind worker h refl mine)))
    (same-is _ _ (ap (refused_keys keys aggs)
    (rows-fed task (sent_rows query worker) senders (sent_suiting query task senders worker (group_suiting query op input keys aggs h.flow))
    ∙ group_sent query op input keys aggs worker h)))) in
    rw (← only_rows query input)
    (Join (flat_map whole workers) (flat_map parts workers) (refused_keys keys aggs rows) each
    (refused-spread keys aggs (key_route query.flow op) workers rows (different-workers query.flow op) (routed query op kind h keys rows)))

-- the keys of a join by the side from which rows come
build_side : (query : Query) (op build probe : ℕ) (build_keys probe_keys : List ℕ) (worker : ℕ) → IsOperator query op (what.Join build probe build_keys probe_keys)
    → flat_map (sent_rows query worker) (workers_of query.flow build)
    ≡ sent_to (by_key (key_route query.flow op) build_keys) (flat_map (dealt_to query) (workers_of query.flow build)) worker
build_side query op build probe build_keys probe_keys worker h =
    sent_keyed query (key_route query.flow op) build_keys (workers_of query.flow build) worker
    (λ sender k row.
    keyed_receiver query op (what.Join build probe build_keys probe_keys) h refl sender
    (among-left sender (workers_of query.flow build) (only_input query.flow probe) k) row
    ∙ ap (λ keys. by_key (key_route query.flow op) keys row)
    (ap (λ b. cond b build_keys probe_keys) (eq-eqb build (op_of query.flow sender) (sym (worker-op query.flow build sender k)))))

probe_side : (query : Query) (op build probe : ℕ) (build_keys probe_keys : List ℕ) (worker : ℕ) → IsOperator query op (what.Join build probe build_keys probe_keys)
    → flat_map (sent_rows query worker) (only_input query.flow probe)
    ≡ sent_to (by_key (key_route query.flow op) probe_keys) (flat_map (dealt_to query) (only_input query.flow probe)) worker
probe_side query op build probe build_keys probe_keys worker h =
    sent_keyed query (key_route query.flow op) probe_keys (only_input query.flow probe) worker
    (λ sender k row.
    keyed_receiver query op (what.Join build probe build_keys probe_keys) h refl sender
    (among-right sender (workers_of query.flow build) (only_input query.flow probe) k) row
    ∙ ap (λ keys. by_key (key_route query.flow op) keys row)
    (ap (λ b. cond b build_keys probe_keys) (ne_eqb build (op_of query.flow sender)
    (λ e. sides-differ query.flow h.flow op build probe build_keys probe_keys h.some h.within h.is
    (e ∙ worker-op query.flow probe sender (in_only query.flow probe sender k))))))

pub join-together : (query : Query) (op build probe : ℕ) (build_keys probe_keys : List ℕ) → IsOperator query op (what.Join build probe build_keys probe_keys)
    → Same (flat_map (dealt_to query) (workers_of query.flow op))
    (join_result build_keys probe_keys (flat_map (dealt_to query) (workers_of query.flow build)) (flat_map (dealt_to query) (workers_of query.flow probe)))
join-together query op build probe build_keys probe_keys h =
    let kind = what.Join build probe build_keys probe_keys in
    let task = task_with query.flow op kind in
    let workers = workers_of query.flow op in
    let builders = workers_of query.flow build in
    let others = only_input query.flow probe in
    let route = key_route query.flow op in
    let left = flat_map (dealt_to query) builders in
    let right = flat_map (dealt_to query) others in
    let parts = λ (worker : ℕ). join_result build_keys probe_keys (sent_to (by_key route build_keys) left worker) (sent_to (by_key route probe_keys) right worker) in
    let each : Same (flat_map (dealt_to query) workers) (flat_map parts workers) =
    same-among (dealt_to query) parts workers (λ worker mine.
    Join (dealt_to query worker) (gives task (fed_by (sent_rows query worker) (builders ++ others))) (parts worker)
    (keyed_gives query op kind worker h refl mine)
    (same-is _ _ (join-gives query.flow op build probe build_keys probe_keys (sent_rows query worker) others
    (sent_suiting query task (builders ++ others) worker (join_suiting query op build probe build_keys probe_keys h.flow))
    (apart_sides query op build probe build_keys probe_keys h)
    ∙ ap (λ built. join_result build_keys probe_keys built (flat_map (sent_rows query worker) others)) (build_side query op build probe build_keys probe_keys worker h)
    ∙ ap (join_result build_keys probe_keys (sent_to (by_key route build_keys) left worker)) (probe_side query op build probe build_keys probe_keys worker h)))) in
    rw (← only_rows query probe)
    (Join (flat_map (dealt_to query) workers) (flat_map parts workers) (join_result build_keys probe_keys left right) each
    (join_result-spread build_keys probe_keys route workers left right (different-workers query.flow op) (routed query op kind h probe_keys right)))

-- ---- the sink

-- the rows that the sink's workers are given
pub sink-together : (query : Query) (op input : ℕ) → IsOperator query op (what.Sink input)
    → Same (flat_map (λ worker. rows_in (task_with query.flow op (what.Sink input)) (total_arrivals query (dealt_to query) worker)) (workers_of query.flow op))
    (flat_map (dealt_to query) (workers_of query.flow input))
sink-together query op input h =
    let task = task_with query.flow op (what.Sink input) in
    let workers = workers_of query.flow op in
    let arrivals = total_arrivals query (dealt_to query) in
    let senders = only_input query.flow input in
    Join (flat_map (λ worker. rows_in task (arrivals worker)) workers) (rows_in task (flat_map arrivals workers)) (flat_map (dealt_to query) (workers_of query.flow input))
    (same-is _ _ (found-flat (suiting task) arrivals workers))
    (Join (rows_in task (flat_map arrivals workers)) (rows_in task (fed_by (dealt_to query) senders)) (flat_map (dealt_to query) (workers_of query.flow input))
    (same-filter_map (suiting task) (whole_rows query op (what.Sink input) h refl))
    (same-is _ _ (rows-fed task (dealt_to query) senders (sink_suiting query op input h.flow) ∙ only_rows query input)))
