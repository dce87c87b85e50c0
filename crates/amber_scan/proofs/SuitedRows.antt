-- A row that is typed by columns fits them.
use Rattle.std.proofs.Common.{◌≡◌, ℕ, ◌+◌, ◌==◌, true, List, [], ◌∷◌, length, Option, Some, None, Result, Ok, Err, inl, inr, refl, arith}
use Rattle.std.specs.Str.{is_utf8}
use Rattle.std.proofs.lemmas.Bool.{cases_Bool, eqb-true}
use Rattle.amber_rows.specs.Columns.{kind_of}
use Rattle.amber_rows.specs.Number.{read_int_of}
use Rattle.amber_rows.specs.Record.{cell_before, cell_of, cells_of, int_cell, row_of}
use Rattle.amber_rows.specs.Suits.{same_kind, suits_of}
use Rattle.amber_rows.specs.declared.value.Value.{Value}
use Rattle.amber_rows.specs.declared.column.ColKind.{ColKind}
use Rattle.amber_rows.specs.declared.column.ColKind.TheVariants as kind
use Rattle.amber_rows.specs.declared.column.Column.{Column}
use Rattle.amber_rows.specs.declared.record.RowFault.{RowFault}
use Rattle.amber_scan.specs.Shares.{Suits}

-- a cell is of this kind, if it is one
abbrev IsOfKind : ColKind → Result Value RowFault → Type 0
IsOfKind kind (Ok cell) = same_kind kind (kind_of cell) ≡ true
IsOfKind kind (Err fault) = Unit {0}

int-kind : (number : ℕ) (found : Option _) → IsOfKind kind.Int (int_cell number found)
int-kind number None = tt
int-kind number (Some n) = refl

cell-kind : (number : ℕ) (kind : ColKind) (field : List ℕ) → IsOfKind kind (cell_of number kind field)
cell-kind number kind.Int field = int-kind number (read_int_of field)
cell-kind number kind.Text field = elim (cases_Bool (is_utf8 field)) [
  | inl t ↦ rw t refl
  | inr t ↦ rw t tt
]

before-suits : (column : Column) (columns : List Column) (one : Result Value RowFault) (rest : Result (List Value) RowFault)
    → IsOfKind column.kind one → Suits columns rest → Suits (column ∷ columns) (cell_before one rest)
unfolding suits_of
before-suits column columns (Err why) rest h hs = tt
before-suits column columns (Ok cell) (Err why) h hs = tt
before-suits column columns (Ok cell) (Ok cells) h hs = rw (h, hs) refl

cells-suit : (number : ℕ) (columns : List Column) (fields : List (List ℕ)) → length fields ≡ length columns → Suits columns (cells_of number columns fields)
unfolding cells_of suits_of
cells-suit number [] [] e = refl
cells-suit number [] (field ∷ fields) e = absurd (omega (arith, e))
cells-suit number (column ∷ columns) [] e = absurd (omega (arith, e))
cells-suit number (column ∷ columns) (field ∷ fields) e =
    before-suits column columns (cell_of number column.kind field) (cells_of (number + 1) columns fields) (cell-kind number column.kind field)
    (cells-suit (number + 1) columns fields (omega (arith, e)))

pub row-suits : (columns : List Column) (fields : List (List ℕ)) → Suits columns (row_of columns fields)
unfolding row_of
row-suits columns fields = elim (cases_Bool (length fields == length columns)) [
  | inl t ↦ rw t (cells-suit 1 columns fields (eqb-true (length fields) (length columns) t))
  | inr t ↦ rw t tt
]
