-- What the state of a group is seen as, and the rows that it stands for.
use Rattle.std.specs.Prelude.{◌≡◌, ℕ, ◌+◌, List, [], ◌∷◌, ◌++◌, length, map}
use Rattle.amber_rows.specs.Operators.{first_keys, group_result, rows_with}
use Rattle.amber_rows.specs.declared.value.Value.{Value}
use Rattle.amber_rows.specs.declared.agg.Agg.{Agg}
use Rattle.amber_keys.specs.Tables.{table_entries}
use Rattle.amber_group.specs.Running.{running_of}
use Rattle.amber_group.specs.declared.running.Running.{Running}

-- the columns of the key, the aggregates, how many rows came, and each group's key beside what is kept for each aggregate
pub record Group : Type 0 where
  pub keys : List ℕ
  pub aggs : List Agg
  pub fed : ℕ
  pub groups : List (List Value × List Running)

-- the groups of rows, in the order in which their keys stand first
unfoldable pub groups_of : List ℕ → List Agg → List (List Value) → List (List Value × List Running)
groups_of keys aggs rows = table_entries (λ key. map (running_of (rows_with keys rows key)) aggs) (first_keys keys rows)

-- a state that was fed these rows, in this order
abbrev pub IsFedWith : Group → List (List Value) → Type 0
IsFedWith state rows = (state.fed ≡ length rows) × (state.groups ≡ groups_of state.keys state.aggs rows)

-- a state was fed this row: it stands for one row more, by the same columns and with the same aggregates
pub record FeedsRow (row : List Value) (old new : Group) : Type 0 where
  pub keys : new.keys ≡ old.keys
  pub aggs : new.aggs ≡ old.aggs
  pub fed : new.fed ≡ old.fed + 1
  pub stands : (rows : List (List Value)) → IsFedWith old rows → IsFedWith new (rows ++ row ∷ [])

-- the same of several rows, one after the other
pub record FeedsRows (rows : List (List Value)) (old new : Group) : Type 0 where
  pub keys : new.keys ≡ old.keys
  pub aggs : new.aggs ≡ old.aggs
  pub fed : new.fed ≡ old.fed + length rows
  pub stands : (before : List (List Value)) → IsFedWith old before → IsFedWith new (before ++ rows)

-- the rows of all groups, whatever rows the state was fed
abbrev pub AreRowsOf : Group → List (List Value) → Type 0
AreRowsOf state made = (rows : List (List Value)) → IsFedWith state rows → made ≡ group_result state.keys state.aggs rows
