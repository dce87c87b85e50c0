-- What a table of keys is seen as.
use Rattle.std.specs.Prelude.{◌≡◌, ℕ, List}
use Rattle.std.specs.List.{AllZip}
use Rattle.std.specs.Map.{keys_of}
pub use Rattle.indexmap.specs.IndexMap.{set_value_at}
use Rattle.amber_rows.specs.declared.value.Value.{Value}

-- each key beside its value, in the order in which the keys were added, and how many more keys can be added without memory
pub record Table (V : Type 0) : Type 0 where
  pub entries : List (List Value × V)
  pub room : ℕ

-- the keys, in their order
abbrev pub table_keys : {V : Type 0} → Table V → List (List Value)
table_keys table = keys_of table.entries

-- the table with another value beside the key at a place
abbrev pub with_entry_value : {V : Type 0} → Table V → ℕ → V → Table V
with_entry_value table place value = record table { entries = set_value_at table.entries place value }

-- the same keys, each beside a clone of its value
abbrev pub HaveClones : {V : Type 0} → (V → V → Type 0) → List (List Value × V) → List (List Value × V) → Type 0
HaveClones Cloned entries copies = AllZip (λ one copy. (copy.0 ≡ one.0) × Cloned one.1 copy.1) entries copies
