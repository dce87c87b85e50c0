-- The files and typed records of the scans, as the operators of a workflow are gone through in order.
use Rattle.std.specs.Prelude.{ℕ, List, [], ◌∷◌, Bool, true, if◌then◌else◌, Result}
use Rattle.amber_rows.specs.Record.{has_header, typed_records}
use Rattle.amber_rows.specs.declared.value.Value.{Value}
use Rattle.amber_rows.specs.declared.column.Column.{Column}
use Rattle.amber_rows.specs.declared.record.RowFault.{RowFault}
use Rattle.amber_rows.specs.declared.flow.What.{What}
use Rattle.amber_rows.specs.declared.flow.Operator.{Operator}
use Rattle.amber_meaning.specs.Plain.{files_after}
use Rattle.amber_rows.specs.Kinds.{is_scan}

-- the files that these operators leave to those after them
unfoldable pub files_left : List (List ℕ) → List Operator → List (List ℕ)
files_left files [] = files
files_left files (operator ∷ more) = files_left (files_after operator.what files) more

-- whether an operator is no scan, or its file begins with the names of its columns
abbrev pub is_headed : What → List Column → List ℕ → Bool
is_headed kind columns file = if is_scan kind then has_header columns file else true

-- the typed records of an operator's file; none where it is no scan
abbrev pub records_at : What → List Column → List ℕ → List (Result (List Value) RowFault)
records_at kind columns file = if is_scan kind then typed_records columns file else []
