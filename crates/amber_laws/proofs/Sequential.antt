-- What the workers of an operator give together is what the operator gives in the sequential answer.
use Rattle.std.proofs.Common.{◌≡◌, ℕ, zero, suc, ◌+◌, ◌-◌, ◌<◌, ◌≤◌, eqb, Bool, true, false, cond, Option, Some, None, ℤ, List, [], ◌∷◌, ◌++◌, length, take, Result, Ok, Err, refl, sym, ◌∙◌, ap, arith}
use Rattle.std.specs.Str.{is_utf8}
use Rattle.std.specs.List.{filter_map, flat_map, list_all}
use Rattle.std.proofs.lemmas.Bool.{and_from, and_parts, eqb-true, false≢true}
use Rattle.std.proofs.lemmas.List.{append-nil}
use Rattle.std.proofs.lemmas.List.Folds.{list_all-map}
use Rattle.amber_meaning.specs.Plan.{numbered_record}
use Rattle.amber_rows.specs.Cond.{holds_of}
use Rattle.amber_rows.specs.Topology.{reads, what_at, workers_of}
use Rattle.amber_rows.specs.FlowRules.{IsFlow}
use Rattle.amber_rows.specs.Columns.{columns_at, kind_of}
use Rattle.amber_rows.specs.Kinds.{is_sink, is_scan}
use Rattle.amber_rows.specs.Number.{read_int_of}
use Rattle.amber_rows.specs.Operators.{join_result, matches_of, pick_cells, project_result, refused_keys, same_row}
use Rattle.amber_rows.specs.Record.{cell_before, cell_of, cells_of, file_records, int_cell, ok_of, row_of, typed_records}
use Rattle.amber_rows.specs.Lists.{later_of, list_at, first_list}
use Rattle.amber_rows.specs.Suits.{same_kind, suits_of}
use Rattle.amber_rows.specs.declared.column.ColKind.{ColKind}
use Rattle.amber_rows.specs.declared.column.ColKind.TheVariants as kind
use Rattle.amber_rows.specs.declared.column.Column.{Column}
use Rattle.amber_rows.specs.declared.record.RowFault.{RowFault}
use Rattle.amber_rows.specs.declared.record.RowFault.TheVariants as fault
use Rattle.amber_rows.specs.declared.value.Value.{Value}
use Rattle.amber_rows.specs.declared.value.Value.TheVariants as value
use Rattle.amber_rows.specs.declared.flow.What.{What}
use Rattle.amber_rows.specs.declared.flow.What.TheVariants as what
use Rattle.amber_rows.specs.declared.flow.Operator.{Operator}
use Rattle.amber_meaning.proofs.Numbers.{among, among-first, among-more}
use Rattle.amber_meaning.proofs.Lists.{list_all-every}
use Rattle.amber_meaning.proofs.Operators.{list_at-is, records-here, rows-before, rows-here}
use Rattle.amber_meaning.specs.ScanFiles.{files_left, records_at}
use Rattle.amber_meaning.specs.Legal.{Query, query_over}
use Rattle.amber_meaning.specs.Plain.{outputs, records_of}
use Rattle.amber_meaning.specs.Kinds.{rows_of}
use Rattle.amber_rows.specs.Shares.{with_numbers}
use Rattle.amber_meaning.specs.Task.{Arrival, rows_in}
use Rattle.amber_meaning.specs.Produce.{closing, yields}
use Rattle.amber_meaning.specs.Total.{dealt_to, total_arrivals, gives}
use Rattle.amber_laws.proofs.Answered.{IsDealtOut, plain_rows, rows_given}
use Rattle.amber_laws.proofs.Bags.{Same, Join, equal-among, same-each, same-filter, same-flat_map, same-is, same-map}
use Rattle.amber_meaning.proofs.Flows.{columns-there, input-earlier, kind-there, no-sink, there}
use Rattle.amber_laws.proofs.Grouping.{group_result-same, refused_keys-same}
use Rattle.amber_laws.proofs.Links.{scan-whole}
use Rattle.amber_laws.proofs.Made.{task_with}
use Rattle.amber_laws.proofs.Together.{IsOperator, filter-together, group-together, join-together, keys-together, one-by-one, project-together, sink-together, worker-task}

-- ---- typed records

-- a record's row suits the columns, if it has one
abbrev pub is_typed : List Column → Result (List Value) RowFault → Bool
is_typed columns (Ok row) = suits_of columns row
is_typed columns (Err why) = true

-- the records of each scan are typed by its columns
abbrev pub AreTyped : Query → Type 0
AreTyped query = (op : ℕ) → 0 < op → op ≤ length query.flow → is_scan (what_at query.flow op) ≡ true
    → list_all (is_typed (columns_at query.flow op)) (list_at query.records op) ≡ true

-- a cell is of the kind, if it is one
abbrev is_cell : ColKind → Result Value RowFault → Bool
is_cell k (Ok v) = same_kind k (kind_of v)
is_cell k (Err why) = true

cell_typed : (column : Column) (columns : List Column) (cell : Result Value RowFault) (rest : Result (List Value) RowFault)
    → is_cell column.kind cell ≡ true → is_typed columns rest ≡ true → is_typed (column ∷ columns) (cell_before cell rest) ≡ true
unfolding suits_of
cell_typed column columns (Err why) rest h k = refl
cell_typed column columns (Ok v) (Err why) h k = refl
cell_typed column columns (Ok v) (Ok cells) h k = and_from (same_kind column.kind (kind_of v)) (suits_of columns cells) h k

cell_kind : (number : ℕ) (k : ColKind) (field : List ℕ) → is_cell k (cell_of number k field) ≡ true
cell_kind number kind.Int field = by (read_int_of field)
  where
    by : (o : Option ℤ) → is_cell kind.Int (int_cell number o) ≡ true
    by None = refl
    by (Some n) = refl
cell_kind number kind.Text field = by (is_utf8 field)
  where
    by : (b : Bool) → is_cell kind.Text (cond b (Ok (value.Text field)) (Err (fault.Utf8 number))) ≡ true
    by true = refl
    by false = refl

cells_typed : (number : ℕ) (columns : List Column) (fields : List (List ℕ)) → length fields ≡ length columns → is_typed columns (cells_of number columns fields) ≡ true
unfolding cells_of suits_of
cells_typed number [] fields e = refl
cells_typed number (column ∷ columns) [] e = absurd (omega (arith, e))
cells_typed number (column ∷ columns) (field ∷ fields) e =
    cell_typed column columns (cell_of number column.kind field) (cells_of (number + 1) columns fields) (cell_kind number column.kind field)
    (cells_typed (number + 1) columns fields (omega (arith, e)))

row_typed : (columns : List Column) (fields : List (List ℕ)) → is_typed columns (row_of columns fields) ≡ true
unfolding row_of
row_typed columns fields = by (eqb (length fields) (length columns)) refl
  where
    by : (b : Bool) → eqb (length fields) (length columns) ≡ b → is_typed columns (cond b (cells_of 1 columns fields) (Err fault.Width)) ≡ true
    by true e = cells_typed 1 columns fields (eqb-true (length fields) (length columns) e)
    by false e = refl

file_typed : (columns : List Column) (file : List ℕ) → list_all (is_typed columns) (typed_records columns file) ≡ true
unfolding typed_records
file_typed columns file =
    list_all-map (is_typed columns) (row_of columns) (later_of (file_records file))
    ∙ list_all-every (λ fields. is_typed columns (row_of columns fields)) (later_of (file_records file)) (row_typed columns)

some_typed : (kind : What) (columns : List Column) (file : List ℕ) → list_all (is_typed columns) (records_at kind columns file) ≡ true
some_typed kind columns file = by (is_scan kind)
  where
    by : (b : Bool) → list_all (is_typed columns) (cond b (typed_records columns file) []) ≡ true
    by true = file_typed columns file
    by false = refl

pub typed-over : (flow : List Operator) (files : List (List ℕ)) (batch_size most : ℕ) → IsFlow flow → AreTyped (query_over flow files batch_size most)
typed-over flow files batch_size most is op some within scan =
    let at = there flow is op some within in
    let records : list_at (records_of files flow) op ≡ records_at at.operator.what at.operator.schema (first_list (files_left files (take (op - 1) flow))) =
    list_at-is (records_of files flow) op some ∙ records-here files flow (op - 1) at.operator (omega arith) at.at in
    rw (records, columns-there flow op at) (some_typed at.operator.what at.operator.schema (first_list (files_left files (take (op - 1) flow))))

-- ---- scans

scan_alone : (flow : List Operator) (op : ℕ) (file : List ℕ) (number : ℕ) (records : List (Result (List Value) RowFault))
    → list_all (is_typed (columns_at flow op)) records ≡ true
    → flat_map (λ one. yields (task_with flow op (what.Scan file)) [] one []) (with_numbers numbered_record number records) ≡ filter_map ok_of records
unfolding with_numbers yields
scan_alone flow op file number [] h = refl
scan_alone flow op file number (Ok row ∷ records) h =
    let parts = and_parts (suits_of (columns_at flow op) row) (list_all (is_typed (columns_at flow op)) records) h in
    rw parts.0 (ap (λ l. row ∷ l) (scan_alone flow op file (number + 1) records parts.1))
scan_alone flow op file number (Err why ∷ records) h = scan_alone flow op file (number + 1) records h

scan_gives : (flow : List Operator) (op : ℕ) (file : List ℕ) (arrivals : List Arrival)
    → gives (task_with flow op (what.Scan file)) arrivals ≡ flat_map (λ one. yields (task_with flow op (what.Scan file)) [] one []) arrivals
unfolding gives closing yields
scan_gives flow op file arrivals = append-nil (flat_map (λ one. yields (task_with flow op (what.Scan file)) [] one []) arrivals)

scan-together : (query : Query) (op : ℕ) (file : List ℕ) → IsOperator query op (what.Scan file) → AreTyped query
    → Same (flat_map (dealt_to query) (workers_of query.flow op)) (filter_map ok_of (list_at query.records op))
scan-together query op file h typed =
    let task = task_with query.flow op (what.Scan file) in
    let all = with_numbers numbered_record 1 (list_at query.records op) in
    let scan : is_scan (what_at query.flow op) ≡ true = ap is_scan h.is in
    Join (flat_map (dealt_to query) (workers_of query.flow op)) (gives task all) (filter_map ok_of (list_at query.records op))
    (one-by-one query op (what.Scan file) h (λ one. yields task [] one []) (scan_gives query.flow op file) all
    (scan-whole query h.flow (dealt_to query) op h.some h.within scan))
    (same-is _ _ (scan_gives query.flow op file all
    ∙ scan_alone query.flow op file 1 (list_at query.records op) (typed op h.some h.within scan)))

-- ---- rows in another order

projected_same : (from : List ℕ) {xs ys : List (List Value)} → Same xs ys → Same (project_result from xs) (project_result from ys)
unfolding project_result
projected_same from h = same-map (pick_cells from) h

matched_same : (build_keys probe_keys : List ℕ) (row : List Value) {xs ys : List (List Value)} → Same xs ys
    → Same (matches_of build_keys probe_keys xs row) (matches_of build_keys probe_keys ys row)
unfolding matches_of
matched_same build_keys probe_keys row h = same-map (λ other. row ++ other) (same-filter (λ other. same_row (pick_cells build_keys other) (pick_cells probe_keys row)) h)

joined_same : (build_keys probe_keys : List ℕ) {ws xs ys zs : List (List Value)} → Same ws xs → Same ys zs
    → Same (join_result build_keys probe_keys ws ys) (join_result build_keys probe_keys xs zs)
unfolding join_result
joined_same build_keys probe_keys {ws} {xs} {ys} {zs} h k =
    Join (flat_map (matches_of build_keys probe_keys ws) ys) (flat_map (matches_of build_keys probe_keys xs) ys) (flat_map (matches_of build_keys probe_keys xs) zs)
    (same-each (matches_of build_keys probe_keys ws) (matches_of build_keys probe_keys xs) (λ row. matched_same build_keys probe_keys row h) ys)
    (same-flat_map (matches_of build_keys probe_keys xs) k)

-- ---- every operator

-- the rows of an operator are made of those of the operators before it
rows_plain : (query : Query) (op : ℕ) (kind : What) → IsOperator query op kind
    → plain_rows query op ≡ rows_of kind (list_at query.records op) (outputs query.records [] (take (op - 1) query.flow))
rows_plain query op kind h =
    let at = there query.flow h.flow op h.some h.within in
    list_at-is (outputs query.records [] query.flow) op h.some
    ∙ rows-here query.records query.flow (op - 1) at.operator (omega (arith, h.some, h.within)) at.at
    ∙ ap (λ records. rows_of at.operator.what records (outputs query.records [] (take (op - 1) query.flow))) (sym (list_at-is query.records op h.some))
    ∙ ap (λ k. rows_of k (list_at query.records op) (outputs query.records [] (take (op - 1) query.flow))) (sym (kind-there query.flow op at) ∙ h.is)

-- those of an input
input_plain : (query : Query) (op : ℕ) (kind : What) → IsOperator query op kind → (input : ℕ) → reads kind input ≡ true
    → list_at (outputs query.records [] (take (op - 1) query.flow)) input ≡ plain_rows query input
input_plain query op kind h input r =
    let earlier = input-earlier query.flow h.flow op input h.some h.within (ap (λ k. reads k input) h.is ∙ r) in
    rows-before query.records query.flow (op - 1) input (omega (arith, h.some, h.within)) earlier.0 (omega (arith, earlier.1))

-- the operator's workers give its rows
abbrev AreTogether : Query → ℕ → Type 0
AreTogether query op = Same (flat_map (dealt_to query) (workers_of query.flow op)) (plain_rows query op)

kind_together : (query : Query) (op : ℕ) (kind : What) → IsOperator query op kind → AreTyped query → is_sink kind ≡ false
    → ((input : ℕ) → reads kind input ≡ true → AreTogether query input) → AreTogether query op
kind_together query op (what.Scan file) h typed s inputs =
    rw (rows_plain query op (what.Scan file) h) (scan-together query op file h typed)
kind_together query op (what.Filter input test) h typed s inputs =
    let own : reads (what.Filter input test) input ≡ true = among-first input [] in
    rw (rows_plain query op (what.Filter input test) h, input_plain query op (what.Filter input test) h input own)
    (Join _ _ _ (filter-together query op input test h) (same-filter (holds_of test) (inputs input own)))
kind_together query op (what.Project input from) h typed s inputs =
    let own : reads (what.Project input from) input ≡ true = among-first input [] in
    rw (rows_plain query op (what.Project input from) h, input_plain query op (what.Project input from) h input own)
    (Join _ _ _ (project-together query op input from h) (projected_same from (inputs input own)))
kind_together query op (what.Join build probe build_keys probe_keys) h typed s inputs =
    let kind = what.Join build probe build_keys probe_keys in
    let left : reads kind build ≡ true = among-first build (probe ∷ []) in
    let right : reads kind probe ≡ true = among-more probe build (probe ∷ []) (among-first probe []) in
    rw (rows_plain query op kind h, input_plain query op kind h build left, input_plain query op kind h probe right)
    (Join _ _ _ (join-together query op build probe build_keys probe_keys h) (joined_same build_keys probe_keys (inputs build left) (inputs probe right)))
kind_together query op (what.Group input keys aggs) h typed s inputs =
    let own : reads (what.Group input keys aggs) input ≡ true = among-first input [] in
    rw (rows_plain query op (what.Group input keys aggs) h, input_plain query op (what.Group input keys aggs) h input own)
    (Join _ _ _ (group-together query op input keys aggs h) (group_result-same keys aggs (inputs input own)))
kind_together query op (what.Sink input) h typed s inputs = absurd (false≢true (sym s))

below_together : (query : Query) → IsFlow query.flow → AreTyped query → (bound op : ℕ) → op < bound → 0 < op → op < length query.flow → AreTogether query op
below_together query is typed zero op less some within = absurd (omega arith)
below_together query is typed (suc bound) op less some within =
    let most : op ≤ length query.flow = omega arith in
    kind_together query op (what_at query.flow op) (record { flow = is; some = some; within = most; is = refl }) typed (no-sink query.flow is op some within)
    (λ input r.
    let earlier = input-earlier query.flow is op input some most r in
    below_together query is typed bound input (omega (arith, earlier.1, less)) earlier.0 (omega (arith, earlier.1, within)))

-- the workers of each operator but the sink give together what the operator gives in the sequential answer
pub operators-together : (query : Query) → IsFlow query.flow → AreTyped query → (op : ℕ) → 0 < op → op < length query.flow
    → Same (flat_map (dealt_to query) (workers_of query.flow op)) (plain_rows query op)
operators-together query is typed op some within = below_together query is typed (op + 1) op (omega arith) some within

input_together : (query : Query) (op : ℕ) (kind : What) → IsOperator query op kind → AreTyped query → (input : ℕ) → reads kind input ≡ true → AreTogether query input
input_together query op kind h typed input r =
    let earlier = input-earlier query.flow h.flow op input h.some h.within (ap (λ k. reads k input) h.is ∙ r) in
    operators-together query h.flow typed input earlier.0 (omega (arith, earlier.1, h.within))

-- ---- groups and the sink

given_is : (query : Query) (op : ℕ) (kind : What) → IsOperator query op kind → (worker : ℕ) → among worker (workers_of query.flow op) ≡ true
    → rows_given query worker ≡ rows_in (task_with query.flow op kind) (total_arrivals query (dealt_to query) worker)
given_is query op kind h worker mine = ap (λ task. rows_in task (total_arrivals query (dealt_to query) worker)) (worker-task query op kind worker h mine)

pub dealt-out : (query : Query) → IsFlow query.flow → AreTyped query → IsDealtOut query
dealt-out query is typed = record {
  groups = λ op input keys aggs some within e.
      let kind = what.Group input keys aggs in
      let h : IsOperator query op kind = record { flow = is; some = some; within = within; is = e } in
      let workers = workers_of query.flow op in
      let whole = λ (worker : ℕ). refused_keys keys aggs (rows_given query worker) in
      let parts = λ (worker : ℕ). refused_keys keys aggs (rows_in (task_with query.flow op kind) (total_arrivals query (dealt_to query) worker)) in
      Join (flat_map whole workers) (flat_map parts workers) (refused_keys keys aggs (plain_rows query input))
      (same-is _ _ (equal-among whole parts workers (λ worker mine. ap (refused_keys keys aggs) (given_is query op kind h worker mine))))
      (Join (flat_map parts workers) (refused_keys keys aggs (flat_map (dealt_to query) (workers_of query.flow input))) (refused_keys keys aggs (plain_rows query input))
      (keys-together query op input keys aggs h)
      (refused_keys-same keys aggs (input_together query op kind h typed input (among-first input []))));
  sink = λ input e.
      let kind = what.Sink input in
      let op = length query.flow in
      let h : IsOperator query op kind = record { flow = is; some = omega (arith, is.some); within = omega arith; is = e } in
      let workers = workers_of query.flow op in
      let parts = λ (worker : ℕ). rows_in (task_with query.flow op kind) (total_arrivals query (dealt_to query) worker) in
      Join (flat_map (rows_given query) workers) (flat_map parts workers) (plain_rows query input)
      (same-is _ _ (equal-among (rows_given query) parts workers (λ worker mine. given_is query op kind h worker mine)))
      (Join (flat_map parts workers) (flat_map (dealt_to query) (workers_of query.flow input)) (plain_rows query input)
      (sink-together query op input h) (input_together query op kind h typed input (among-first input [])));
}
