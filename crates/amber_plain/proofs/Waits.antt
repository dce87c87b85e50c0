-- What is unread while operators are evaluated: the rows that will come of it, and how many.
use Rattle.std.proofs.Common.{◌≡◌, ◌≢◌, ℕ, suc, ◌+◌, ◌-◌, ◌<◌, ◌≤◌, Bool, true, false, cond, eqb, List, [], ◌∷◌, ◌++◌, length, get_or, map, set, sum_by, filter, Option, Some, None, option_map, inl, inr, refl, sym, ap, ◌∙◌, arith}
use Rattle.std.specs.Prelude.{slice_get, unwrap_or}
use Rattle.std.proofs.lemmas.Bool.{cases_Bool, cases_eq, ne_eqb}
use Rattle.std.proofs.lemmas.List.{get_or-set_other, get_or-set_same, length-set, map-set}
use Rattle.std.proofs.lemmas.List.Sums.{sum_by-append, sum_by-cons, sum_by-set}
use Rattle.std.proofs.lemmas.Option.{slice_get-map, unwrap_or-slice_get}
use Rattle.amber_rows.specs.Cond.{holds_of}
use Rattle.amber_rows.specs.Kinds.{build_input, main_input}
use Rattle.amber_rows.specs.Lists.{list_at}
use Rattle.amber_rows.specs.Operators.{group_result, join_result, pick_cells, project_result, refused_keys}
use Rattle.amber_rows.specs.Order.{sort_rows}
use Rattle.amber_rows.specs.declared.cond.Cond.{Cond}
use Rattle.amber_rows.specs.declared.value.Value.{Value}
use Rattle.amber_rows.specs.declared.flow.What.{What}
use Rattle.amber_rows.specs.declared.flow.What.TheVariants as what
use Rattle.amber_meaning.specs.Kinds.{refused_by, rows_of}
use Rattle.amber_meaning.specs.Refused.{refused_groups, refused_records}
use Rattle.amber_meaning.proofs.Operators.{Lists}
use Rattle.amber_plain.specs.Unread.{HasInputs, HasOne, Records, Waiting, nothing_unread, unread_at, unread_count, unread_rows, source_rows, without}
use Rattle.amber_plain.specs.Stages.{count_through, rows_after, rows_through}
use Rattle.amber_plain.specs.Steps.{others_of, unread_of, read_for, refused_now, through}
use Rattle.amber_plain.specs.declared.stage.Source.TheVariants as source
use Rattle.amber_operators.specs.declared.operator_state.OperatorState.{OperatorState}
use Rattle.amber_operators.specs.declared.operator_state.OperatorState.TheVariants as operator_state
use Rattle.amber_plain.proofs.Inputs.{one_read, read_count, reads_none, reads_other}
use Rattle.amber_plain.proofs.Passing.{count_through-none}

-- ---- one stage more

through-rows : (stages : List OperatorState) (one : OperatorState) (rows : List (List Value)) → rows_through (stages ++ one ∷ []) rows ≡ rows_after one (rows_through stages rows)
unfolding rows_through
through-rows [] one rows = refl
through-rows (first ∷ later) one rows = through-rows later one (rows_after first rows)

through-count : (stages : List OperatorState) (one : OperatorState) (rows : List (List Value))
    → count_through (stages ++ one ∷ []) rows ≡ count_through stages rows + length (rows_after one (rows_through stages rows))
unfolding rows_through count_through
through-count [] one rows = refl
through-count (first ∷ later) one rows = let rest = through-count later one (rows_after first rows) in omega (arith, rest)

-- ---- lists of them

-- what will come of each
abbrev pub lists_of : Records → List Waiting → Lists
lists_of records waiting = map (unread_rows records) waiting

nothing_unread-rows : (records : Records) → unread_rows records nothing_unread ≡ []
unfolding rows_through
nothing_unread-rows records = refl

nothing_unread-count : (records : Records) → unread_count records nothing_unread ≡ 0
nothing_unread-count records = count_through-none []

list-of : (records : Records) (found : Option Waiting) → unwrap_or (option_map (unread_rows records) found) [] ≡ unread_rows records (unwrap_or found nothing_unread)
list-of records None = sym (nothing_unread-rows records)
list-of records (Some unread) = refl

lists-by : (records : Records) (waiting : List Waiting) (op : ℕ) (b : Bool) → eqb op 0 ≡ b
    → unwrap_or (cond b None (slice_get (lists_of records waiting) (op - 1))) [] ≡ unread_rows records (unwrap_or (cond b None (slice_get waiting (op - 1))) nothing_unread)
lists-by records waiting op true e = sym (nothing_unread-rows records)
lists-by records waiting op false e = rw (slice_get-map (unread_rows records) waiting (op - 1)) (list-of records (slice_get waiting (op - 1)))

pub list_at-lists : (records : Records) (waiting : List Waiting) (op : ℕ) → list_at (lists_of records waiting) op ≡ unread_rows records (unread_at waiting op)
list_at-lists records waiting op = lists-by records waiting op (eqb op 0) refl

pub unread_at-is : (waiting : List Waiting) (op : ℕ) → 0 < op → unread_at waiting op ≡ get_or waiting (op - 1) nothing_unread
unread_at-is waiting op h = let e : eqb op 0 ≡ false = ne_eqb op 0 (omega arith) in rw e (unwrap_or-slice_get waiting (op - 1) nothing_unread)

-- ---- where one was taken

pub taken-other : (waiting : List Waiting) (input op : ℕ) → 0 < op → 0 < input → op ≢ input → unread_at (without waiting input) op ≡ unread_at waiting op
taken-other waiting input op a b ne =
    unread_at-is (without waiting input) op a ∙ get_or-set_other waiting (input - 1) (op - 1) nothing_unread nothing_unread (λ e. ne (omega arith)) ∙ sym (unread_at-is waiting op a)

pub taken-same : (waiting : List Waiting) (op : ℕ) → HasOne waiting op → unread_at (without waiting op) op ≡ nothing_unread
taken-same waiting op h = unread_at-is (without waiting op) op h.0 ∙ get_or-set_same waiting (op - 1) nothing_unread nothing_unread (omega (arith, h.0, h.1))

pub taken-none : (waiting : List Waiting) (input op : ℕ) → 0 < op → HasOne waiting input → unread_at waiting op ≡ nothing_unread → unread_at (without waiting input) op ≡ nothing_unread
taken-none waiting input op some has e = elim (cases_eq op input) [
  | inl same ↦ ap (λ k. unread_at (without waiting input) k) same ∙ taken-same waiting input has
  | inr other ↦ taken-other waiting input op some has.0 other ∙ e
]

taken-lists : (records : Records) (waiting : List Waiting) (op : ℕ) → lists_of records (without waiting op) ≡ set (lists_of records waiting) (op - 1) []
taken-lists records waiting op = map-set (unread_rows records) waiting (op - 1) nothing_unread ∙ ap (λ rows. set (lists_of records waiting) (op - 1) rows) (nothing_unread-rows records)

-- how many rows are still to come
abbrev pub owed : Records → List Waiting → ℕ
owed records waiting = sum_by (unread_count records) waiting

pub taken-owed : (records : Records) (waiting : List Waiting) (op : ℕ) → HasOne waiting op → owed records (without waiting op) + unread_count records (unread_at waiting op) ≡ owed records waiting
taken-owed records waiting op h =
    let f = unread_count records in
    let sum = sum_by-set f waiting (op - 1) nothing_unread nothing_unread (omega (arith, h.0, h.1)) in
    let here : f (unread_at waiting op) ≡ f (get_or waiting (op - 1) nothing_unread) = ap f (unread_at-is waiting op h.0) in
    omega (arith, sum, here, nothing_unread-count records)

pub owed-push : (records : Records) (waiting : List Waiting) (unread : Waiting) → owed records (waiting ++ unread ∷ []) ≡ owed records waiting + unread_count records unread
owed-push records waiting unread =
    let one : 0 + unread_count records unread ≡ unread_count records unread = omega arith in
    sum_by-append (unread_count records) waiting (unread ∷ []) ∙ ap (λ n. owed records waiting + n) one

pub owed-none : (records : Records) (waiting : List Waiting) → ((k : ℕ) → k < length waiting → get_or waiting k nothing_unread ≡ nothing_unread) → owed records waiting ≡ 0
owed-none records [] h = refl
owed-none records (unread ∷ waiting) h =
    let rest = owed-none records waiting (λ k lt. h (suc k) (omega (arith, lt))) in
    let first : unread_count records unread ≡ 0 = ap (unread_count records) (h 0 (omega arith)) ∙ nothing_unread-count records in
    omega (arith, sum_by-cons (unread_count records) unread waiting, rest, first)

-- ---- the lists that are left when the inputs are taken

abbrev pub without_list : Lists → Option ℕ → Lists
without_list lists None = lists
without_list lists (Some input) = set lists (input - 1) []

abbrev pub lists_after : What → Lists → Lists
lists_after kind lists = without_list (without_list lists (build_input kind)) (main_input kind)

pub others-lists : (records : Records) (kind : What) (waiting : List Waiting) → lists_of records (others_of kind waiting) ≡ lists_after kind (lists_of records waiting)
others-lists records (what.Scan file) waiting = refl
others-lists records (what.Filter input test) waiting = taken-lists records waiting input
others-lists records (what.Project input from) waiting = taken-lists records waiting input
others-lists records (what.Join build probe build_keys probe_keys) waiting =
    taken-lists records (without waiting build) probe ∙ ap (λ lists. set lists (probe - 1) []) (taken-lists records waiting build)
others-lists records (what.Group input keys aggs) waiting = taken-lists records waiting input
others-lists records (what.Sink input) waiting = taken-lists records waiting input

pub others-length : (kind : What) (waiting : List Waiting) → length (others_of kind waiting) ≡ length waiting
others-length (what.Scan file) waiting = refl
others-length (what.Filter input test) waiting = length-set waiting (input - 1) nothing_unread
others-length (what.Project input from) waiting = length-set waiting (input - 1) nothing_unread
others-length (what.Join build probe build_keys probe_keys) waiting =
    length-set (without waiting build) (probe - 1) nothing_unread ∙ length-set waiting (build - 1) nothing_unread
others-length (what.Group input keys aggs) waiting = length-set waiting (input - 1) nothing_unread
others-length (what.Sink input) waiting = length-set waiting (input - 1) nothing_unread

-- there is still the other input of a join
pub probe-there : (waiting : List Waiting) (build probe : ℕ) → HasOne waiting probe → HasOne (without waiting build) probe
probe-there waiting build probe h = (h.0, omega (arith, h.1, length-set waiting (build - 1) nothing_unread))

-- ---- what was not read stands as before, and what was read is nothing

pub others-other : (kind : What) (waiting : List Waiting) (op : ℕ) → 0 < op → HasInputs waiting kind → read_count kind op ≡ 0 → unread_at (others_of kind waiting) op ≡ unread_at waiting op
others-other (what.Scan file) waiting op some h none = refl
others-other (what.Filter input test) waiting op some h none = taken-other waiting input op some h.1.0 (reads_other input op (omega arith))
others-other (what.Project input from) waiting op some h none = taken-other waiting input op some h.1.0 (reads_other input op (omega arith))
others-other (what.Join build probe build_keys probe_keys) waiting op some h none =
    taken-other (without waiting build) probe op some h.1.0 (reads_other probe op (omega arith)) ∙ taken-other waiting build op some h.0.0 (reads_other build op (omega arith))
others-other (what.Group input keys aggs) waiting op some h none = taken-other waiting input op some h.1.0 (reads_other input op (omega arith))
others-other (what.Sink input) waiting op some h none = taken-other waiting input op some h.1.0 (reads_other input op (omega arith))

pub others-none : (kind : What) (waiting : List Waiting) (op : ℕ) → 0 < op → HasInputs waiting kind → unread_at waiting op ≡ nothing_unread → unread_at (others_of kind waiting) op ≡ nothing_unread
others-none (what.Scan file) waiting op some h e = e
others-none (what.Filter input test) waiting op some h e = taken-none waiting input op some h.1 e
others-none (what.Project input from) waiting op some h e = taken-none waiting input op some h.1 e
others-none (what.Join build probe build_keys probe_keys) waiting op some h e =
    taken-none (without waiting build) probe op some (probe-there waiting build probe h.1) (taken-none waiting build op some h.0 e)
others-none (what.Group input keys aggs) waiting op some h e = taken-none waiting input op some h.1 e
others-none (what.Sink input) waiting op some h e = taken-none waiting input op some h.1 e

taken-own : (waiting : List Waiting) (input op : ℕ) → HasOne waiting input → 0 < read_count (what.Sink input) op → unread_at (without waiting input) op ≡ nothing_unread
taken-own waiting input op h reads =
    let e = one_read input op (omega (arith, reads)) in ap (λ k. unread_at (without waiting input) k) (sym e) ∙ taken-same waiting input h

pub others-read : (kind : What) (waiting : List Waiting) (op : ℕ) → HasInputs waiting kind → 0 < read_count kind op → unread_at (others_of kind waiting) op ≡ nothing_unread
others-read (what.Scan file) waiting op h reads = absurd (omega arith)
others-read (what.Filter input test) waiting op h reads = taken-own waiting input op h.1 reads
others-read (what.Project input from) waiting op h reads = taken-own waiting input op h.1 reads
others-read (what.Join build probe build_keys probe_keys) waiting op h reads =
    let has = probe-there waiting build probe h.1 in
    elim (cases_eq probe op) [
      | inl e ↦ ap (λ k. unread_at (without (without waiting build) probe) k) (sym e) ∙ taken-same (without waiting build) probe has
      | inr ne ↦
          let none = reads_none probe op ne in
          let e = one_read build op (omega (arith, none)) in
          let gone : unread_at (without waiting build) op ≡ nothing_unread = ap (λ k. unread_at (without waiting build) k) (sym e) ∙ taken-same waiting build h.0 in
          taken-none (without waiting build) probe op (omega (arith, h.0.0, e)) has gone
    ]
others-read (what.Group input keys aggs) waiting op h reads = taken-own waiting input op h.1 reads
others-read (what.Sink input) waiting op h reads = taken-own waiting input op h.1 reads

-- ---- what is unread for the next operator

-- a filter's stage keeps the rows of which its condition holds
filtered : (test : Cond) (rows : List (List Value)) → rows_after (operator_state.Filter test) rows ≡ filter (holds_of test) rows
filtered test [] = refl
filtered test (row ∷ later) =
    elim (cases_Bool (holds_of test row)) [
      | inl met ↦ rw met (ap (λ rest. row ∷ rest) (filtered test later))
      | inr unmet ↦ rw unmet (filtered test later)
    ]

-- a projection's stage makes a row of each
picked : (from : List ℕ) (rows : List (List Value)) → rows_after (operator_state.Project from) rows ≡ project_result from rows
unfolding project_result
picked from [] = refl
picked from (row ∷ later) = ap (λ rest. pick_cells from row ∷ rest) (picked from later)

-- its rows are those of the definition
pub next-unread : (records : Records) (op : ℕ) (kind : What) (waiting : List Waiting)
    → unread_rows records (unread_of records op kind waiting) ≡ rows_of kind (list_at records op) (lists_of records waiting)
unfolding rows_through join_result
next-unread records op (what.Scan file) waiting = refl
next-unread records op (what.Filter input test) waiting =
    let unread = unread_at waiting input in
    through-rows unread.stages (operator_state.Filter test) (source_rows records unread.source) ∙ filtered test (unread_rows records unread) ∙ ap (λ rows. filter (holds_of test) rows) (sym (list_at-lists records waiting input))
next-unread records op (what.Project input from) waiting =
    let unread = unread_at waiting input in
    through-rows unread.stages (operator_state.Project from) (source_rows records unread.source) ∙ picked from (unread_rows records unread) ∙ ap (λ rows. project_result from rows) (sym (list_at-lists records waiting input))
next-unread records op (what.Join build probe build_keys probe_keys) waiting =
    let unread = unread_at waiting probe in
    through-rows unread.stages (operator_state.Join (record { build_keys = build_keys; probe_keys = probe_keys; rows = unread_rows records (unread_at waiting build); sealed = true })) (source_rows records unread.source)
    ∙ ap (λ rows. join_result build_keys probe_keys rows (unread_rows records unread)) (sym (list_at-lists records waiting build))
    ∙ ap (λ rows. join_result build_keys probe_keys (list_at (lists_of records waiting) build) rows) (sym (list_at-lists records waiting probe))
next-unread records op (what.Group input keys aggs) waiting = ap (λ rows. group_result keys aggs rows) (sym (list_at-lists records waiting input))
next-unread records op (what.Sink input) waiting = ap (λ rows. sort_rows rows) (sym (list_at-lists records waiting input))

-- what it refuses at once is what the definition says, but for a scan
pub next-refused : (records : Records) (op : ℕ) (kind : What) (waiting : List Waiting) → refused_now records op kind waiting ≡ refused_by op kind [] (lists_of records waiting)
unfolding refused_records
next-refused records op (what.Scan file) waiting = refl
next-refused records op (what.Filter input test) waiting = refl
next-refused records op (what.Project input from) waiting = refl
next-refused records op (what.Join build probe build_keys probe_keys) waiting = refl
next-refused records op (what.Group input keys aggs) waiting = ap (λ rows. refused_groups op (refused_keys keys aggs rows)) (sym (list_at-lists records waiting input))
next-refused records op (what.Sink input) waiting = refl

-- one stage more owes the rows that it makes
owed-through : (records : Records) (waiting : List Waiting) (input : ℕ) (one : OperatorState) → HasOne waiting input
    → owed records (without waiting input ++ through (unread_at waiting input) one ∷ []) ≡ owed records waiting + length (unread_rows records (through (unread_at waiting input) one))
owed-through records waiting input one h =
    let unread = unread_at waiting input in
    let rows = source_rows records unread.source in
    let more = through-count unread.stages one rows in
    let made : length (unread_rows records (through unread one)) ≡ length (rows_after one (rows_through unread.stages rows)) = ap length (through-rows unread.stages one rows) in
    omega (arith, owed-push records (without waiting input) (through unread one), taken-owed records waiting input h, more, made)

-- rows that stand in a list are owed
owed-rows : (records : Records) (waiting : List Waiting) (input : ℕ) (rows : List (List Value)) → HasOne waiting input
    → owed records (without waiting input ++ record { source = source.Rows rows; stages = [] } ∷ []) + unread_count records (unread_at waiting input) ≡ owed records waiting + length rows
unfolding count_through
owed-rows records waiting input rows h =
    omega (arith, owed-push records (without waiting input) (record { source = source.Rows rows; stages = [] }), taken-owed records waiting input h)

-- the rows that were read and those that are still to come are those that were to come, and its own
pub next-owed : (records : Records) (op : ℕ) (kind : What) (waiting : List Waiting) → HasInputs waiting kind
    → owed records (others_of kind waiting ++ unread_of records op kind waiting ∷ []) + unread_count records (read_for kind waiting)
    ≡ owed records waiting + length (unread_rows records (unread_of records op kind waiting))
unfolding rows_through count_through
next-owed records op (what.Scan file) waiting h = omega (arith, owed-push records waiting (record { source = source.Scan op; stages = [] }))
next-owed records op (what.Filter input test) waiting h = omega (arith, owed-through records waiting input (operator_state.Filter test) h.1, nothing_unread-count records)
next-owed records op (what.Project input from) waiting h = omega (arith, owed-through records waiting input (operator_state.Project from) h.1, nothing_unread-count records)
next-owed records op (what.Join build probe build_keys probe_keys) waiting h =
    let one = operator_state.Join (record { build_keys = build_keys; probe_keys = probe_keys; rows = unread_rows records (unread_at waiting build); sealed = true }) in
    let has = probe-there waiting build probe h.1 in
    let same : unread_at (without waiting build) probe ≡ unread_at waiting probe = taken-other waiting build probe h.1.0 h.0.0 (λ e. h.2 (sym e)) in
    let made = rw same at (owed-through records (without waiting build) probe one has) in
    omega (arith, made, taken-owed records waiting build h.0)
next-owed records op (what.Group input keys aggs) waiting h = owed-rows records waiting input (group_result keys aggs (unread_rows records (unread_at waiting input))) h.1
next-owed records op (what.Sink input) waiting h = owed-rows records waiting input (sort_rows (unread_rows records (unread_at waiting input))) h.1

-- what is read was owed
pub read-owed : (records : Records) (kind : What) (waiting : List Waiting) → HasInputs waiting kind → unread_count records (read_for kind waiting) ≤ owed records waiting
read-owed records (what.Scan file) waiting h = omega (arith, nothing_unread-count records)
read-owed records (what.Filter input test) waiting h = omega (arith, nothing_unread-count records)
read-owed records (what.Project input from) waiting h = omega (arith, nothing_unread-count records)
read-owed records (what.Join build probe build_keys probe_keys) waiting h = omega (arith, taken-owed records waiting build h.0)
read-owed records (what.Group input keys aggs) waiting h = omega (arith, taken-owed records waiting input h.1)
read-owed records (what.Sink input) waiting h = omega (arith, taken-owed records waiting input h.1)
