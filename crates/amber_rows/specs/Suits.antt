-- Whether a row fits columns.
use Rattle.std.specs.Prelude.{◌&&◌, List, [], ◌∷◌, Bool, true, false}
use Rattle.amber_rows.specs.Columns.{kind_of}
use Rattle.amber_rows.specs.declared.value.Value.{Value}
use Rattle.amber_rows.specs.declared.column.ColKind.{ColKind}
use Rattle.amber_rows.specs.declared.column.ColKind.TheVariants.{Int, Text}
use Rattle.amber_rows.specs.declared.column.Column.{Column}

abbrev pub same_kind : ColKind → ColKind → Bool
same_kind Int Int = true
same_kind Int Text = false
same_kind Text Int = false
same_kind Text Text = true

-- a row has a cell for each column, of its kind
unfoldable pub suits_of : List Column → List Value → Bool
suits_of [] [] = true
suits_of [] (cell ∷ cells) = false
suits_of (column ∷ columns) [] = false
suits_of (column ∷ columns) (cell ∷ cells) = same_kind column.kind (kind_of cell) && suits_of columns cells
