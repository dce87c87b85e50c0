-- Where the rows with a key stand.
use Rattle.std.specs.Prelude.{ℕ, ◌+◌, List, [], ◌∷◌, Bool, if◌then◌else◌}
use Rattle.amber_rows.specs.Operators.{first_keys, pick_cells, same_row}
use Rattle.amber_rows.specs.declared.value.Value.{Value}
use Rattle.amber_keys.specs.Tables.{table_entries}

-- the places of those that pass a test, where the first stands at n
unfoldable pub places_from : {A : Type 0} → (A → Bool) → ℕ → List A → List ℕ
places_from test n [] = []
places_from test n (x ∷ xs) = if test x then n ∷ places_from test (n + 1) xs else places_from test (n + 1) xs

-- the places of the rows with a key, from 0 on
abbrev pub places_of : List ℕ → List (List Value) → List Value → List ℕ
places_of keys rows key = places_from (λ row. same_row (pick_cells keys row) key) 0 rows

-- each key of the rows beside the places of those that have it
unfoldable pub table_of : List ℕ → List (List Value) → List (List Value × List ℕ)
table_of keys rows = table_entries (places_of keys rows) (first_keys keys rows)
