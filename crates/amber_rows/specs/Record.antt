-- The records of a scan's file, typed by its columns.
use Rattle.std.specs.Prelude.{ℕ, ◌+◌, ◌==◌, ℤ, List, [], ◌∷◌, length, map, bytes_eq, Option, Some, None, Result, Ok, Err, Bool, false, if◌then◌else◌}
use Rattle.std.specs.List.{filter_map}
use Rattle.std.specs.Cmp.Lexicographic.{pointwise}
use Rattle.std.specs.Str.{is_utf8}
use Rattle.csv.specs.Reading.{default_config, records, strip_bom}
use Rattle.amber_rows.specs.Lists.{first_of, later_of}
use Rattle.amber_rows.specs.Columns.{names_of}
use Rattle.amber_rows.specs.Number.{read_int_of}
use Rattle.amber_rows.specs.declared.value.Value.{Value}
use Rattle.amber_rows.specs.declared.value.Value.TheVariants as value
use Rattle.amber_rows.specs.declared.column.ColKind.{ColKind}
use Rattle.amber_rows.specs.declared.column.ColKind.TheVariants as kind
use Rattle.amber_rows.specs.declared.column.Column.{Column}
use Rattle.amber_rows.specs.declared.record.RowFault.{RowFault}
use Rattle.amber_rows.specs.declared.record.RowFault.TheVariants as fault

-- ---- records

-- the records of a file as lists of fields, the header first, as RFC 4180 has them: commas, double quotes, a byte order mark dropped
unfoldable pub file_records : List ℕ → List (List (List ℕ))
file_records bytes = records default_config (strip_bom bytes)

-- whether a record is a list of names
abbrev pub is_header : List (List ℕ) → Option (List (List ℕ)) → Bool
is_header names None = false
is_header names (Some fields) = pointwise bytes_eq fields names

-- whether the first record of a file is the list of the columns' names
unfoldable pub has_header : List Column → List ℕ → Bool
has_header columns bytes = is_header (names_of columns) (first_of (file_records bytes))

-- ---- typing

-- a cell of a column of numbers
abbrev pub int_cell : ℕ → Option ℤ → Result Value RowFault
int_cell column None = Err (fault.Int column)
int_cell column (Some n) = Ok (value.Int n)

-- the cell that a field is in a column, or its fault
abbrev pub cell_of : ℕ → ColKind → List ℕ → Result Value RowFault
cell_of column kind.Int field = int_cell column (read_int_of field)
cell_of column kind.Text field = if is_utf8 field then Ok (value.Text field) else Err (fault.Utf8 column)

-- a cell before the others, or the first fault
abbrev pub cell_before : Result Value RowFault → Result (List Value) RowFault → Result (List Value) RowFault
cell_before (Err why) rest = Err why
cell_before (Ok cell) (Err why) = Err why
cell_before (Ok cell) (Ok cells) = Ok (cell ∷ cells)

-- the cells of the columns from this number on, or the first fault
unfoldable pub cells_of : ℕ → List Column → List (List ℕ) → Result (List Value) RowFault
cells_of number (column ∷ columns) (field ∷ fields) = cell_before (cell_of number column.kind field) (cells_of (number + 1) columns fields)
cells_of number [] fields = Ok []
cells_of number (column ∷ columns) [] = Ok []

-- the row that a record is under these columns, or its fault: a wrong number of fields, else that of the first column that has one
unfoldable pub row_of : List Column → List (List ℕ) → Result (List Value) RowFault
row_of columns fields = if length fields == length columns then cells_of 1 columns fields else Err fault.Width

-- each record after the header as a row or its fault
unfoldable pub typed_records : List Column → List ℕ → List (Result (List Value) RowFault)
typed_records columns bytes = map (row_of columns) (later_of (file_records bytes))

abbrev pub ok_of : {A : Type 0} {E : Type 0} → Result A E → Option A
ok_of (Ok x) = Some x
ok_of (Err e) = None

-- the rows of a file: its typed records without faults, in order
unfoldable pub scan_rows : List Column → List ℕ → List (List Value)
scan_rows columns bytes = filter_map ok_of (typed_records columns bytes)
