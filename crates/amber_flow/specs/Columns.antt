-- The columns of a scan, and those of an input by their names.
use Rattle.std.specs.Prelude.{ℕ, ◌+◌, ◌&&◌, List, [], ◌∷◌, Option, Some, None, ok_or, is_none, if◌then◌else◌, option_map, option_and_then, position, Result, Ok, Bool, false, bytes_eq}
use Rattle.serde_json.specs.Data.{Data}
use Rattle.serde_json.specs.Find.{at}
use Rattle.amber_rows.specs.Lists.{nth}
use Rattle.amber_rows.specs.Columns.{is_column_name}
use Rattle.amber_rows.specs.declared.column.Column.{Column}
use Rattle.amber_rows.specs.Chain.{◌>>=◌, require}
use Rattle.amber_flow.specs.Fields.{text_in}
use Rattle.amber_flow.specs.Names.{column_kind_named}
use Rattle.amber_flow.specs.declared.error.FlowWhy.{FlowWhy}
use Rattle.amber_flow.specs.declared.error.FlowWhy.TheVariants.{Shape}

-- a pair of a name of 1 to 64 bytes and a kind
unfoldable pub column_of : Data → Result Column FlowWhy
column_of tree = do
  name ← ok_or (text_in 0 tree) Shape
  word ← ok_or (text_in 1 tree) Shape
  alone ← require (is_none (at 2 tree)) Shape
  named ← require (is_column_name name) Shape
  kind ← ok_or (column_kind_named word) Shape
  Ok (record { name = name; kind = kind })

-- a list of such pairs
unfoldable pub columns_of : List Data → Result (List Column) FlowWhy
columns_of [] = Ok []
columns_of (tree ∷ trees) = column_of tree >>= (λ column. columns_of trees >>= (λ columns. Ok (column ∷ columns)))

-- the number of the column with this name
abbrev pub column_number : List Column → List ℕ → Option ℕ
column_number columns name = option_map (λ index. index + 1) (position (λ column. bytes_eq column.name name) columns)

-- the column with this name
abbrev pub column_named : List Column → List ℕ → Option Column
column_named columns name = option_and_then (nth columns) (column_number columns name)

-- whether there is a text, and it may name a column
abbrev pub is_new_name : Option (List ℕ) → Bool
is_new_name None = false
is_new_name (Some name) = is_column_name name

-- the name of the column that a pair of texts renames, where its other text may name a column
abbrev pub source_of : Data → Option (List ℕ)
source_of pair = if is_none (at 2 pair) && is_new_name (text_in 1 pair) then text_in 0 pair else None

-- a column under another name
abbrev pub under : List ℕ → Column → Column
under name column = record { name = name; kind = column.kind }

-- the column that a pair renames, under its new name
abbrev pub renaming_of : List Column → Data → Option Column
renaming_of columns pair = option_and_then (λ name. option_map (under name) (option_and_then (column_named columns) (text_in 0 pair))) (text_in 1 pair)
