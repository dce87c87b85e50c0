-- What the workers of an operator give suits the operator's columns.
use Rattle.std.proofs.Common.{◌≡◌, ℕ, zero, suc, ◌-◌, ◌<◌, ◌≤◌, cond, eqb, Bool, true, false, Option, Some, None, IsSomeAnd, List, [], ◌∷◌, ◌++◌, length, map, filter, take, slice_get, Result, Ok, Err, refl, sym, ◌∙◌, ap, arith}
use Rattle.std.specs.Prelude.{⊤}
use Rattle.std.specs.List.{filter_map, flat_map, list_all}
use Rattle.std.proofs.lemmas.Bool.{and_from}
use Rattle.std.proofs.lemmas.List.{length-take}
use Rattle.std.proofs.lemmas.List.Folds.{list_all-append}
use Rattle.std.proofs.lemmas.Option.{none-some, same_Some}
use Rattle.amber_rows.specs.Cond.{holds_of}
use Rattle.amber_rows.specs.Lists.{nth}
use Rattle.amber_rows.specs.Topology.{crew_of, op_of, what_at}
use Rattle.amber_rows.specs.FlowRules.{IsFlow}
use Rattle.amber_rows.specs.Columns.{HasInput, IsEarlier, agg_kind, column_kinds, columns_at, kinds_at, schema_of}
use Rattle.amber_rows.specs.Kinds.{IsKind}
use Rattle.amber_rows.specs.Operators.{matches_of}
use Rattle.amber_rows.specs.Suits.{suits_of}
use Rattle.amber_rows.specs.declared.value.Value.{Value}
use Rattle.amber_rows.specs.declared.column.Column.{Column}
use Rattle.amber_rows.specs.declared.record.RowFault.{RowFault}
use Rattle.amber_rows.specs.declared.flow.What.{What}
use Rattle.amber_rows.specs.declared.flow.What.TheVariants as what
use Rattle.amber_rows.specs.declared.flow.Operator.{Operator}
use Rattle.amber_meaning.proofs.Operators.{nth-within}
use Rattle.amber_meaning.specs.Legal.{Query, role_in}
use Rattle.amber_meaning.specs.Plan.{built_columns, builders_in, arrival_columns, role_of, task_of}
use Rattle.amber_meaning.specs.Task.{Arrival, Task, built_of, columns_from, is_builder, row_in, suiting}
use Rattle.amber_meaning.specs.Produce.{closing, yields, yields_if}
use Rattle.amber_meaning.specs.Kinds.{yields_row}
use Rattle.amber_meaning.specs.Total.{dealt_to, total_arrivals, gives}
use Rattle.amber_meaning.proofs.Crews.{op-within}
use Rattle.amber_laws.proofs.Dealt.{dealt-is}
use Rattle.amber_meaning.proofs.Flows.{columns-there, kind-there, there}
use Rattle.amber_laws.proofs.Suited.{all-flat, all-found, all-true, group_result-suit, matches-suit, pick_cells-suit}

-- ---- how an operator's columns come of those of its inputs

abbrev pub AreMade : List Operator → What → List Column → Type 0
AreMade flow (what.Scan file) columns = ⊤
AreMade flow (what.Filter input test) columns = columns_at flow input ≡ columns
AreMade flow (what.Project input from) columns = column_kinds columns ≡ kinds_at (columns_at flow input) from
AreMade flow (what.Join build probe build_keys probe_keys) columns = columns ≡ columns_at flow probe ++ columns_at flow build
AreMade flow (what.Group input keys aggs) columns =
    map Some (column_kinds columns) ≡ map Some (kinds_at (columns_at flow input) keys) ++ map (agg_kind (columns_at flow input)) aggs
AreMade flow (what.Sink input) columns = columns_at flow input ≡ columns

get_front : {A : Type 0} (xs : List A) (n k : ℕ) → k < n → slice_get (take n xs) k ≡ slice_get xs k
get_front [] zero k h = refl
get_front [] (suc n) k h = refl
get_front (x ∷ xs) zero k h = absurd (omega arith)
get_front (x ∷ xs) (suc n) zero h = refl
get_front (x ∷ xs) (suc n) (suc k) h = get_front xs n k (omega arith)

-- an earlier operator's columns
columns_before : (flow : List Operator) (n input : ℕ) → IsEarlier (take n flow) input → columns_at (take n flow) input ≡ columns_at flow input
columns_before flow n input h = by (eqb input 0)
  where
    by : (b : Bool) → schema_of (cond b None (slice_get (take n flow) (input - 1))) ≡ schema_of (cond b None (slice_get flow (input - 1)))
    by true = refl
    by false = ap schema_of (get_front flow n (input - 1) (omega (arith, h.0, h.1, length-take n flow)))

has_columns : (before : List Operator) (input : ℕ) (columns : List Column) → HasInput before input columns → columns_at before input ≡ columns
has_columns before input columns h = by (nth before input) h
  where
    by : (o : Option Operator) → IsSomeAnd o (λ earlier. earlier.schema ≡ columns) → schema_of o ≡ columns
    by None e = absurd e
    by (Some earlier) e = e

has_made : (flow : List Operator) (n input : ℕ) (columns : List Column) → HasInput (take n flow) input columns → columns_at flow input ≡ columns
has_made flow n input columns h =
    sym (columns_before flow n input (nth-within (take n flow) input (λ earlier. earlier.schema ≡ columns) h)) ∙ has_columns (take n flow) input columns h

kind_made : (flow : List Operator) (n : ℕ) (kind : What) (columns : List Column) → IsKind (take n flow) kind columns → AreMade flow kind columns
kind_made flow n (what.Scan file) columns h = tt
kind_made flow n (what.Filter input test) columns h = has_made flow n input columns h.0
kind_made flow n (what.Project input from) columns h = h.2 ∙ ap (λ earlier. kinds_at earlier from) (columns_before flow n input h.0)
kind_made flow n (what.Join build probe build_keys probe_keys) columns h =
    rw (← columns_before flow n build h.0, ← columns_before flow n probe h.1) h.6
kind_made flow n (what.Group input keys aggs) columns h = rw (← columns_before flow n input h.0) h.2
kind_made flow n (what.Sink input) columns h = has_made flow n input columns h

pub made : (flow : List Operator) → IsFlow flow → (op : ℕ) → 0 < op → op ≤ length flow → AreMade flow (what_at flow op) (columns_at flow op)
made flow is op some within =
    let at = there flow is op some within in
    rw (kind-there flow op at, columns-there flow op at) (kind_made flow (op - 1) at.operator.what at.operator.schema at.next.kind)

-- ---- what one row yields

-- a row that suits fits the columns of its sender's side
pub suiting-suits : (task : Task) (one : Arrival) (row : List Value) → suiting task one ≡ Some row → suits_of (columns_from task one.from) row ≡ true
suiting-suits task one row e = by one.what e
  where
    if_suits : (other : List Value) (b : Bool) → suits_of (columns_from task one.from) other ≡ b → cond b (Some other) None ≡ Some row → suits_of (columns_from task one.from) row ≡ true
    if_suits other true s f = ap (suits_of (columns_from task one.from)) (sym (same_Some other row f)) ∙ s
    if_suits other false s f = absurd (none-some row f)

    by : (o : Result (List Value) RowFault) → row_in (columns_from task one.from) o ≡ Some row → suits_of (columns_from task one.from) row ≡ true
    by (Err why) f = absurd (none-some row f)
    by (Ok other) f = if_suits other (suits_of (columns_from task one.from) other) refl f

yields_suit : (task : Task) (before : List Arrival) (one : Arrival) (columns : List Column)
    → ((row : List Value) → suits_of (columns_from task one.from) row ≡ true → list_all (suits_of columns) (yields_row task task.kind before one.from [] row) ≡ true)
    → list_all (suits_of columns) (yields task before one []) ≡ true
unfolding yields
yields_suit task before one columns h = by (suiting task one) refl
  where
    by : (o : Option (List Value)) → suiting task one ≡ o → list_all (suits_of columns) (yields_if task before one.from [] o) ≡ true
    by None e = refl
    by (Some row) e = h row (suiting-suits task one row e)

-- the task of an operator of a kind
abbrev pub task_with : List Operator → ℕ → What → Task
task_with flow op kind = record {
  kind = kind;
  columns = arrival_columns flow op kind;
  build_columns = built_columns flow kind;
  builders = builders_in flow kind;
}

one_suits : (columns : List Column) (row : List Value) (b : Bool) → suits_of columns row ≡ true → list_all (suits_of columns) (cond b (row ∷ []) []) ≡ true
one_suits columns row true h = rw h refl
one_suits columns row false h = refl

-- of the build side each row that suits fits the build columns
built_suit : (task : Task) (arrivals : List Arrival) → list_all (suits_of task.build_columns) (built_of task arrivals) ≡ true
unfolding built_of
built_suit task arrivals =
    all-found (suits_of task.build_columns) (λ one. is_builder task one.from) (suiting task)
    (λ one row b e. ap (λ side. suits_of (cond side task.build_columns task.columns) row) (sym b) ∙ suiting-suits task one row e)
    (filter (λ one. is_builder task one.from) arrivals) (all_pass (λ one. is_builder task one.from) arrivals)
  where
    all_pass : (test : Arrival → Bool) (xs : List Arrival) → list_all test (filter test xs) ≡ true
    all_pass test [] = refl
    all_pass test (x ∷ xs) = by (test x) refl (all_pass test xs)
      where
        by : (b : Bool) → test x ≡ b → list_all test (filter test xs) ≡ true → list_all test (cond b (x ∷ filter test xs) (filter test xs)) ≡ true
        by true e rest = and_from (test x) (list_all test (filter test xs)) e rest
        by false e rest = rest

row_suits : (flow : List Operator) (op : ℕ) (kind : What) (before : List Arrival) (from : ℕ) (row : List Value) → AreMade flow kind (columns_at flow op)
    → suits_of (columns_from (task_with flow op kind) from) row ≡ true
    → list_all (suits_of (columns_at flow op)) (yields_row (task_with flow op kind) kind before from [] row) ≡ true
row_suits flow op (what.Scan file) before from row m h = rw h refl
row_suits flow op (what.Filter input test) before from row m h =
    one_suits (columns_at flow op) row (holds_of test row) (ap (λ columns. suits_of columns row) (sym m) ∙ h)
row_suits flow op (what.Project input from_columns) before from row m h =
    rw (pick_cells-suit (columns_at flow input) (columns_at flow op) row from_columns m h) refl
row_suits flow op (what.Join build probe build_keys probe_keys) before from row m h =
    by (is_builder (task_with flow op (what.Join build probe build_keys probe_keys)) from) h
  where
    task : Task
    task = task_with flow op (what.Join build probe build_keys probe_keys)

    by : (b : Bool) → suits_of (cond b (columns_at flow build) (columns_at flow probe)) row ≡ true
        → list_all (suits_of (columns_at flow op)) (cond b [] (matches_of build_keys probe_keys (built_of task before) row)) ≡ true
    by true e = refl
    by false e =
        rw m (matches-suit (columns_at flow probe) (columns_at flow build) build_keys probe_keys (built_of task before) row e (built_suit task before))
row_suits flow op (what.Group input keys aggs) before from row m h = refl
row_suits flow op (what.Sink input) before from row m h = refl

-- the rows that suit, of what the workers of an operator with no build side are handed
rows_suit : (task : Task) (arrivals : List Arrival) → task.builders ≡ [] → list_all (suits_of task.columns) (filter_map (suiting task) arrivals) ≡ true
rows_suit task arrivals e =
    all-found (suits_of task.columns) (λ (one : Arrival). true) (suiting task)
    (λ one row t f. ap (λ builders. suits_of (columns_from (record task { builders = builders }) one.from) row) (sym e) ∙ suiting-suits task one row f)
    arrivals (all-true arrivals)

closing_suits : (flow : List Operator) (op : ℕ) (kind : What) (arrivals : List Arrival) → AreMade flow kind (columns_at flow op)
    → list_all (suits_of (columns_at flow op)) (closing (task_with flow op kind) arrivals) ≡ true
unfolding closing
closing_suits flow op (what.Scan file) arrivals m = refl
closing_suits flow op (what.Filter input test) arrivals m = refl
closing_suits flow op (what.Project input from) arrivals m = refl
closing_suits flow op (what.Join build probe build_keys probe_keys) arrivals m = refl
closing_suits flow op (what.Group input keys aggs) arrivals m =
    let task = task_with flow op (what.Group input keys aggs) in
    group_result-suit (columns_at flow input) (columns_at flow op) keys aggs (filter_map (suiting task) arrivals) (rows_suit task arrivals refl) m
closing_suits flow op (what.Sink input) arrivals m = refl

gives_suit : (flow : List Operator) (op : ℕ) (kind : What) (arrivals : List Arrival) → AreMade flow kind (columns_at flow op)
    → list_all (suits_of (columns_at flow op)) (gives (task_with flow op kind) arrivals) ≡ true
unfolding gives
gives_suit flow op kind arrivals m =
    let task = task_with flow op kind in
    list_all-append (suits_of (columns_at flow op)) (flat_map (λ one. yields task arrivals one []) arrivals) (closing task arrivals)
    ∙ and_from _ _
    (all-flat (suits_of (columns_at flow op)) (λ one. yields task arrivals one [])
    (λ one. yields_suit task arrivals one (columns_at flow op) (λ row h. row_suits flow op kind arrivals one.from row m h)) arrivals)
    (closing_suits flow op kind arrivals m)

-- whatever the workers of an operator are handed, what they give suits the operator's columns
pub gives-suit : (flow : List Operator) → IsFlow flow → (op : ℕ) → 0 < op → op ≤ length flow → (arrivals : List Arrival)
    → list_all (suits_of (columns_at flow op)) (gives (task_of flow op) arrivals) ≡ true
unfolding task_of
gives-suit flow is op some within arrivals = gives_suit flow op (what_at flow op) arrivals (made flow is op some within)

pub role-task : (query : Query) (worker : ℕ) → (role_in query worker).task ≡ task_of query.flow (op_of query.flow worker)
unfolding role_of
role-task query worker = refl

-- what a worker is dealt suits the columns of its operator
pub dealt-suit : (query : Query) → IsFlow query.flow → (worker : ℕ) → worker < crew_of query.flow
    → list_all (suits_of (columns_at query.flow (op_of query.flow worker))) (dealt_to query worker) ≡ true
dealt-suit query is worker known =
    let op = op-within query.flow worker known in
    rw (dealt-is query is worker known, role-task query worker) (gives-suit query.flow is (op_of query.flow worker) op.0 op.1 (total_arrivals query (dealt_to query) worker))
