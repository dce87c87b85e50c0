-- A table that has an entry for each key of some rows.
use Rattle.std.specs.Prelude.{List, map, Bool, cond}
use Rattle.std.specs.List.{list_any}
use Rattle.amber_rows.specs.Operators.{same_row}
use Rattle.amber_rows.specs.declared.value.Value.{Value}

-- whether a row is among others
abbrev pub among : List Value → List (List Value) → Bool
among k rows = list_any (λ other. same_row other k) rows

-- these keys, each beside what it stands for
abbrev pub table_entries : {A : Type 0} → (List Value → A) → List (List Value) → List (List Value × A)
table_entries f keys = map (λ key. (key, f key)) keys

-- a key stands for another thing from now on, where it is there
abbrev pub replaced : {A : Type 0} → List Value → A → List (List Value × A) → List (List Value × A)
replaced key new entries = map (λ entry. (entry.0, cond (same_row key entry.0) new entry.1)) entries
