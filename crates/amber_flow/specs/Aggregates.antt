-- The aggregates of a group, as texts mean them.
use Rattle.std.specs.Prelude.{ℕ, ◌||◌, List, length, drop, Option, Some, None, is_some, option_and_then, option_map, Bool, if◌then◌else◌, nat_eq, bytes_eq, codes}
use Rattle.std.specs.List.{starts_with}
use Rattle.amber_rows.specs.Columns.{agg_kind}
use Rattle.amber_rows.specs.declared.agg.Agg.{Agg}
use Rattle.amber_rows.specs.declared.agg.Agg.TheVariants as agg
use Rattle.amber_rows.specs.declared.column.Column.{Column}
use Rattle.amber_rows.specs.declared.column.ColKind.{ColKind}
use Rattle.amber_flow.specs.Columns.{column_number}

-- what follows a word at the front of a text
abbrev pub behind : List ℕ → List ℕ → Option (List ℕ)
behind word text = if starts_with nat_eq text word then Some (drop (length word) text) else None

-- `count`, or one of three words with what follows it
abbrev pub is_agg_text : List ℕ → Bool
is_agg_text text = bytes_eq text (codes "count") || (is_some (behind (codes "sum:") text) || (is_some (behind (codes "min:") text) || is_some (behind (codes "max:") text)))

-- the aggregate of the column with a name, or else the other one
abbrev pub agg_or : Option (List ℕ) → (List ℕ → Option Agg) → Option Agg → Option Agg
agg_or None named other = other
agg_or (Some name) named other = named name

-- the aggregate that a text means over these columns, where the column that it names is there
abbrev pub agg_of : List Column → List ℕ → Option Agg
agg_of columns text =
    if bytes_eq text (codes "count") then Some agg.Count
    else agg_or (behind (codes "sum:") text) (λ name. option_map agg.Sum (column_number columns name))
    (agg_or (behind (codes "min:") text) (λ name. option_map agg.Min (column_number columns name))
    (agg_or (behind (codes "max:") text) (λ name. option_map agg.Max (column_number columns name)) None))

-- the column that has a name and is of this kind
abbrev pub column_of_kind : List ℕ → ColKind → Column
column_of_kind name kind = record { name = name; kind = kind }

-- the column of the aggregate that a text means, which the text names
abbrev pub agg_column : List Column → List ℕ → Option Column
agg_column columns text = option_map (column_of_kind text) (option_and_then (agg_kind columns) (agg_of columns text))
