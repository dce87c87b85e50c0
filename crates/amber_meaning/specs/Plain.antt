-- The sequential answer of a workflow: what each operator gives, as lists over whole files.
use Rattle.std.specs.Prelude.{◌≡◌, ℕ, ◌+◌, ◌<◌, ◌≤◌, ⊤, List, [], ◌∷◌, ◌++◌, length, count_by, sum_by, Option, Some, None, Result, Ok, Err, if◌then◌else◌}
use Rattle.amber_meaning.specs.Kinds.{rows_of, refused_by}
use Rattle.amber_rows.specs.Kinds.{is_scan}
use Rattle.amber_rows.specs.Lists.{first_list, later_of, list_at}
use Rattle.amber_rows.specs.Columns.{columns_at}
use Rattle.amber_rows.specs.Record.{has_header, typed_records}
use Rattle.amber_rows.specs.declared.value.Value.{Value}
use Rattle.amber_rows.specs.declared.record.RowFault.{RowFault}
use Rattle.amber_rows.specs.declared.flow.What.{What}
use Rattle.amber_rows.specs.declared.flow.Operator.{Operator}
use Rattle.amber_meaning.specs.declared.answer.Answer.{Answer}
use Rattle.amber_meaning.specs.declared.answer.Refusal.{Refusal}
use Rattle.amber_meaning.specs.declared.answer.PlainErr.{PlainErr}
use Rattle.amber_meaning.specs.declared.answer.PlainErr.TheVariants as plain_err

-- ---- the files of the scans

-- how many operators are scans: each has a file, in their order
unfoldable pub scan_count : List Operator → ℕ
scan_count flow = count_by (λ operator. is_scan operator.what) flow

-- the files that an operator leaves to those after it
abbrev pub files_after : What → List (List ℕ) → List (List ℕ)
files_after kind files = if is_scan kind then later_of files else files

-- for each operator the typed records of its file; none where it is no scan
unfoldable pub records_of : List (List ℕ) → List Operator → List (List (Result (List Value) RowFault))
records_of files [] = []
records_of files (operator ∷ more) =
    (if is_scan operator.what then typed_records operator.schema (first_list files) else []) ∷ records_of (files_after operator.what files) more

-- ---- rows

-- the rows of the operators so far, and then of each of these in order
unfoldable pub outputs : List (List (Result (List Value) RowFault)) → List (List (List Value)) → List Operator → List (List (List Value))
outputs records done [] = done
outputs records done (operator ∷ more) = outputs (later_of records) (done ++ rows_of operator.what (first_list records) done ∷ []) more

-- ---- what is refused

-- what the operators from this number on refuse, where these are the rows of all operators
unfoldable pub refusals : ℕ → List (List (Result (List Value) RowFault)) → List (List (List Value)) → List Operator → List Refusal
refusals op records done [] = []
refusals op records done (operator ∷ more) = refused_by op operator.what (first_list records) done ++ refusals (op + 1) (later_of records) done more

-- ---- headers

-- the first scan, of the operators from this number on, whose file does not begin with the names of its columns
unfoldable pub wrong_header : ℕ → List (List ℕ) → List Operator → Option ℕ
wrong_header op files [] = None
wrong_header op files (operator ∷ more) =
    if is_scan operator.what then (if has_header operator.schema (first_list files) then wrong_header (op + 1) (later_of files) more else Some op)
    else wrong_header (op + 1) files more

-- ---- the answer

-- the sequential answer from the typed records of the scans: what was refused, and the columns and rows of the last operator, the sink
unfoldable pub answer_from : List Operator → List (List (Result (List Value) RowFault)) → Answer
answer_from flow records = record {
  refused = refusals 1 records (outputs records [] flow) flow;
  columns = columns_at flow (length flow);
  rows = list_at (outputs records [] flow) (length flow);
}

-- the sequential answer over the files of the scans
unfoldable pub answer_of : List Operator → List (List ℕ) → Answer
answer_of flow files = answer_from flow (records_of files flow)

-- how many rows all operators give together
unfoldable pub row_total : List Operator → List (List ℕ) → ℕ
row_total flow files = sum_by length (outputs (records_of files flow) [] flow)

-- what `plain` answers, where this many rows may be: the sequential answer; else the first scan with another header, or that there are
-- more rows
abbrev pub IsPlain : Result Answer PlainErr → List Operator → List (List ℕ) → ℕ → Type 0
IsPlain (Ok answer) flow files most = (wrong_header 1 files flow ≡ None) × (row_total flow files ≤ most) × (answer ≡ answer_of flow files)
IsPlain (Err (plain_err.Header op)) flow files most = wrong_header 1 files flow ≡ Some op
IsPlain (Err plain_err.Long) flow files most = (wrong_header 1 files flow ≡ None) × (most < row_total flow files)
IsPlain (Err plain_err.NoMemory) flow files most = ⊤
