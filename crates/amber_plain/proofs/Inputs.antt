-- What an operator that stands after others reads: each of its inputs once, and nothing else.
use Rattle.std.proofs.Common.{◌≡◌, ◌≢◌, ℕ, ◌<◌, ◌≤◌, Bool, true, false, cond, eqb, List, length, count_by, filter, Option, Some, None, Result, inl, inr, refl, sym, ap, ◌∙◌, arith, eq-eqb}
use Rattle.std.proofs.lemmas.Bool.{cases_eq, eqb-true, ne_eqb}
use Rattle.amber_rows.specs.Cond.{holds_of}
use Rattle.amber_rows.specs.Operators.{group_result, join_result, project_result, refused_keys}
use Rattle.amber_rows.specs.Order.{sort_rows}
use Rattle.amber_rows.specs.Kinds.{build_input, inputs_of, main_input, IsKind}
use Rattle.amber_rows.specs.Lists.{list_at}
use Rattle.amber_rows.specs.declared.value.Value.{Value}
use Rattle.amber_rows.specs.declared.column.Column.{Column}
use Rattle.amber_rows.specs.declared.record.RowFault.{RowFault}
use Rattle.amber_rows.specs.declared.flow.What.{What}
use Rattle.amber_rows.specs.declared.flow.What.TheVariants as what
use Rattle.amber_rows.specs.declared.flow.Operator.{Operator}
use Rattle.amber_meaning.specs.Kinds.{refused_by, rows_of}
use Rattle.amber_meaning.specs.Refused.{refused_groups}
use Rattle.amber_meaning.proofs.Operators.{Lists, nth-within}
use Rattle.amber_plain.specs.Unread.{HasUnreadInput, HasInputs}

-- how often an operator reads the list with this number
abbrev pub read_count : What → ℕ → ℕ
read_count kind op = count_by (λ input. eqb input op) (inputs_of kind)

abbrev pub ones : Bool → ℕ
ones b = cond b 1 0

one_by : (input op : ℕ) (b : Bool) → eqb input op ≡ b → 0 < ones b → input ≡ op
one_by input op true e h = eqb-true input op e
one_by input op false e h = absurd (omega arith)

pub one_read : (input op : ℕ) → 0 < ones (eqb input op) → input ≡ op
one_read input op h = one_by input op (eqb input op) refl h

pub reads_own : (input : ℕ) → ones (eqb input input) ≡ 1
reads_own input = rw (eq-eqb input input refl) refl

pub reads_none : (input op : ℕ) → input ≢ op → ones (eqb input op) ≡ 0
reads_none input op ne = rw (ne_eqb input op ne) refl

pub reads_same : (input op : ℕ) → op ≡ input → ones (eqb input op) ≡ 1
reads_same input op e = rw (eq-eqb input op (sym e)) refl

pub reads_other : (input op : ℕ) → ones (eqb input op) ≡ 0 → op ≢ input
reads_other input op h e = let own = reads_same input op e in absurd (omega (arith, own))

-- ---- the inputs of an operator that stands after others

pub earlier : (before : List Operator) (kind : What) (columns : List Column) → IsKind before kind columns → (op : ℕ) → 0 < read_count kind op → (0 < op) × (op ≤ length before)
earlier before (what.Scan file) columns k op h = absurd (omega arith)
earlier before (what.Filter input test) columns k op h =
    let e = one_read input op (omega arith) in let w = nth-within before input (λ earlier. earlier.schema ≡ columns) k.0 in (omega (arith, w.0), omega (arith, w.1))
earlier before (what.Project input from) columns k op h = let e = one_read input op (omega arith) in (omega (arith, k.0.0), omega (arith, k.0.1))
earlier before (what.Join build probe build_keys probe_keys) columns k op h =
    elim (cases_eq build op) [
      | inl e ↦ (omega (arith, k.0.0), omega (arith, k.0.1))
      | inr ne ↦
          let none = reads_none build op ne in
          let e = one_read probe op (omega (arith, none)) in (omega (arith, k.1.0), omega (arith, k.1.1))
    ]
earlier before (what.Group input keys aggs) columns k op h = let e = one_read input op (omega arith) in (omega (arith, k.0.0), omega (arith, k.0.1))
earlier before (what.Sink input) columns k op h =
    let e = one_read input op (omega arith) in let w = nth-within before input (λ earlier. earlier.schema ≡ columns) k in (omega (arith, w.0), omega (arith, w.1))

-- the list with this number is whole, and read once
pub record IsWhole (kind : What) (lists all : Lists) (op : ℕ) : Type 0 where
  pub some : 0 < op
  pub within : op ≤ length lists
  pub once : read_count kind op ≡ 1
  pub same : list_at lists op ≡ list_at all op

abbrev pub AreWhole : What → Lists → Lists → Type 0
AreWhole kind lists all = (op : ℕ) → 0 < read_count kind op → IsWhole kind lists all op

pub inputs-there : (kind : What) (lists all : Lists) → AreWhole kind lists all → HasInputs lists kind
inputs-there (what.Scan file) lists all w = (tt, tt, tt)
inputs-there (what.Filter input test) lists all w = let h = w input (omega (arith, reads_own input)) in (tt, (h.some, h.within), tt)
inputs-there (what.Project input from) lists all w = let h = w input (omega (arith, reads_own input)) in (tt, (h.some, h.within), tt)
inputs-there (what.Join build probe build_keys probe_keys) lists all w =
    let a = w build (omega (arith, reads_own build)) in
    let b = w probe (omega (arith, reads_own probe)) in (
      (a.some, a.within),
      (b.some, b.within),
      λ e. absurd (omega (arith, a.once, reads_same probe build e, reads_own build)),
    )
inputs-there (what.Group input keys aggs) lists all w = let h = w input (omega (arith, reads_own input)) in (tt, (h.some, h.within), tt)
inputs-there (what.Sink input) lists all w = let h = w input (omega (arith, reads_own input)) in (tt, (h.some, h.within), tt)

-- an operator gives the same rows from lists that are the same at its inputs, and refuses the same
pub rows-same : (kind : What) (records : List (Result (List Value) RowFault)) (lists all : Lists) → ((op : ℕ) → 0 < read_count kind op → list_at lists op ≡ list_at all op)
    → rows_of kind records lists ≡ rows_of kind records all
rows-same (what.Scan file) records lists all w = refl
rows-same (what.Filter input test) records lists all w = ap (λ rows. filter (holds_of test) rows) (w input (omega (arith, reads_own input)))
rows-same (what.Project input from) records lists all w = ap (λ rows. project_result from rows) (w input (omega (arith, reads_own input)))
rows-same (what.Join build probe build_keys probe_keys) records lists all w =
    ap (λ rows. join_result build_keys probe_keys rows (list_at lists probe)) (w build (omega (arith, reads_own build)))
    ∙ ap (λ rows. join_result build_keys probe_keys (list_at all build) rows) (w probe (omega (arith, reads_own probe)))
rows-same (what.Group input keys aggs) records lists all w = ap (λ rows. group_result keys aggs rows) (w input (omega (arith, reads_own input)))
rows-same (what.Sink input) records lists all w = ap (λ rows. sort_rows rows) (w input (omega (arith, reads_own input)))

pub refused-same : (op : ℕ) (kind : What) (records : List (Result (List Value) RowFault)) (lists all : Lists) → ((op : ℕ) → 0 < read_count kind op → list_at lists op ≡ list_at all op)
    → refused_by op kind records lists ≡ refused_by op kind records all
refused-same op (what.Scan file) records lists all w = refl
refused-same op (what.Filter input test) records lists all w = refl
refused-same op (what.Project input from) records lists all w = refl
refused-same op (what.Join build probe build_keys probe_keys) records lists all w = refl
refused-same op (what.Group input keys aggs) records lists all w = ap (λ rows. refused_groups op (refused_keys keys aggs rows)) (w input (omega (arith, reads_own input)))
refused-same op (what.Sink input) records lists all w = refl

HasUnreadInput-same : {A B : Type 0} (xs : List A) (ys : List B) (input : Option ℕ) → length xs ≡ length ys → HasUnreadInput xs input → HasUnreadInput ys input
HasUnreadInput-same xs ys None e h = tt
HasUnreadInput-same xs ys (Some input) e h = (h.0, omega (arith, h.1))

pub HasInputs-same : {A B : Type 0} (xs : List A) (ys : List B) (kind : What) → length xs ≡ length ys → HasInputs xs kind → HasInputs ys kind
HasInputs-same xs ys kind e h = (HasUnreadInput-same xs ys (build_input kind) e h.0, HasUnreadInput-same xs ys (main_input kind) e h.1, h.2)
