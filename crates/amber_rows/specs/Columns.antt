-- Names, columns, and the columns of earlier operators.
use Rattle.std.specs.Prelude.{◌≡◌, ℕ, ◌<◌, ◌≤◌, ◌==◌, ◌&&◌, ◌||◌, not, nat_lt, nat_le, List, [], ◌∷◌, ◌++◌, length, map, Bool, true, false, IsSomeAnd, All, bytes_eq, codes, Option, Some, None, option_map, unwrap_or}
use Rattle.std.specs.List.{list_all, list_any, filter_map}
use Rattle.amber_rows.specs.Lists.{nth}
use Rattle.amber_rows.specs.declared.value.Value.{Value}
use Rattle.amber_rows.specs.declared.value.Value.TheVariants as value
use Rattle.amber_rows.specs.declared.column.ColKind.{ColKind}
use Rattle.amber_rows.specs.declared.column.ColKind.TheVariants as kind
use Rattle.amber_rows.specs.declared.column.Column.{Column}
use Rattle.amber_rows.specs.declared.cond.Cond.{Cond}
use Rattle.amber_rows.specs.declared.agg.Agg.{Agg}
use Rattle.amber_rows.specs.declared.agg.Agg.TheVariants as agg
use Rattle.amber_rows.specs.declared.flow.Operator.{Operator}

-- ---- names

-- `a` to `z`
abbrev pub is_letter : ℕ → Bool
is_letter b = nat_le 97 b && nat_le b 122

-- `a` to `z`, `0` to `9` and `_`
abbrev pub is_id_byte : ℕ → Bool
is_id_byte b = is_letter b || (nat_le 48 b && nat_le b 57) || (b == 95)

-- a letter, and up to 31 letters, digits and `_`
unfoldable pub is_id : List ℕ → Bool
is_id [] = false
is_id (b ∷ bs) = is_letter b && list_all is_id_byte bs && nat_lt (length bs) 32

-- whether a list has an element equal to this text
abbrev pub is_among : List ℕ → List (List ℕ) → Bool
is_among name names = list_any (λ other. bytes_eq other name) names

-- no two texts are equal
unfoldable pub are_apart : List (List ℕ) → Bool
are_apart [] = true
are_apart (name ∷ names) = not (is_among name names) && are_apart names

-- ---- columns

-- the columns' names, in order
abbrev pub names_of : List Column → List (List ℕ)
names_of columns = map (λ column. column.name) columns

-- the kind of the column in which a value may stand
abbrev pub kind_of : Value → ColKind
kind_of (value.Int n) = kind.Int
kind_of (value.Text t) = kind.Text

-- 1 to 64 columns, no name twice
pub record AreColumns (columns : List Column) : Type 0 where
  pub some : 0 < length columns
  pub few : length columns ≤ 64
  pub apart : are_apart (names_of columns) ≡ true

-- a name of 1 to 64 bytes
abbrev pub is_column_name : List ℕ → Bool
is_column_name name = nat_lt 0 (length name) && nat_le (length name) 64

-- the condition's column is there and of the constant's kind
abbrev pub IsCondOn : List Column → Cond → Type 0
IsCondOn columns cond = IsSomeAnd (nth columns cond.column) (λ column. column.kind ≡ kind_of cond.constant)

-- ---- the columns of earlier operators

abbrev pub schema_of : Option Operator → List Column
schema_of None = []
schema_of (Some operator) = operator.schema

-- the columns of an earlier operator
abbrev pub columns_at : List Operator → ℕ → List Column
columns_at before op = schema_of (nth before op)

-- the input is one of the earlier operators, and has these columns
abbrev pub HasInput : List Operator → ℕ → List Column → Type 0
HasInput before input columns = IsSomeAnd (nth before input) (λ earlier. earlier.schema ≡ columns)

-- the input is one of the earlier operators
abbrev pub IsEarlier : List Operator → ℕ → Type 0
IsEarlier before input = (0 < input) × (input ≤ length before)

-- each of these numbers names a column
abbrev pub AreIn : List Column → List ℕ → Type 0
AreIn columns numbers = All (λ number. (0 < number) × (number ≤ length columns)) numbers

-- the kind of the column with this number
abbrev pub column_kind_at : List Column → ℕ → Option ColKind
column_kind_at columns number = option_map (λ column. column.kind) (nth columns number)

-- the kinds of the columns with these numbers
abbrev pub kinds_at : List Column → List ℕ → List ColKind
kinds_at columns numbers = map (λ column. column.kind) (filter_map (nth columns) numbers)

-- the names of the columns with these numbers
abbrev pub names_at : List Column → List ℕ → List (List ℕ)
names_at columns numbers = map (λ column. column.name) (filter_map (nth columns) numbers)

-- the kind of an aggregate's column, where the aggregate may stand over these columns
abbrev pub agg_kind : List Column → Agg → Option ColKind
agg_kind columns agg.Count = Some kind.Int
agg_kind columns (agg.Sum column) = int_kind (option_map (λ c. c.kind) (nth columns column))
  where
    int_kind : Option ColKind → Option ColKind
    int_kind None = None
    int_kind (Some kind.Int) = Some kind.Int
    int_kind (Some kind.Text) = None
agg_kind columns (agg.Min column) = option_map (λ c. c.kind) (nth columns column)
agg_kind columns (agg.Max column) = option_map (λ c. c.kind) (nth columns column)

-- the name of the column with a number
abbrev pub name_at : List Column → ℕ → List ℕ
name_at columns number = unwrap_or (option_map (λ column. column.name) (nth columns number)) []

-- the text of an aggregate, which is the name of its column: `count`, or what it takes of a column, a colon and the column's name
abbrev pub agg_name : List Column → Agg → List ℕ
agg_name columns agg.Count = codes "count"
agg_name columns (agg.Sum column) = codes "sum:" ++ name_at columns column
agg_name columns (agg.Min column) = codes "min:" ++ name_at columns column
agg_name columns (agg.Max column) = codes "max:" ++ name_at columns column

-- the kinds of columns
abbrev pub column_kinds : List Column → List ColKind
column_kinds columns = map (λ column. column.kind) columns
