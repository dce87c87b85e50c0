-- What groups become by a row.
use Rattle.std.specs.Prelude.{◌≡◌, ℕ, ◌+◌, List, [], ◌∷◌, ◌++◌}
use Rattle.amber_rows.specs.Operators.{pick_cells}
use Rattle.amber_rows.specs.declared.value.Value.{Value}
use Rattle.amber_rows.specs.declared.agg.Agg.{Agg}
use Rattle.amber_group.specs.Group.{groups_of}
use Rattle.amber_group.specs.Steps.{GroupsWithin}
use Rattle.amber_group.specs.declared.running.Running.{Running}

-- the groups, the aggregates, and a row that comes with its key
pub record Coming : Type 0 where
  pub entries : List (List Value × List Running)
  pub aggs : List Agg
  pub key : List Value
  pub row : List Value

-- the groups take in the row: from the groups of some rows they become those of these rows and this one
pub record TakesIn (c : Coming) (after : List (List Value × List Running)) : Type 0 where
  pub groups : (keys : List ℕ) (rows : List (List Value)) → c.entries ≡ groups_of keys c.aggs rows → c.key ≡ pick_cells keys c.row
      → after ≡ groups_of keys c.aggs (rows ++ c.row ∷ [])
  -- what is kept is as small as one row more allows
  pub within : (fed : ℕ) → GroupsWithin fed c.entries → GroupsWithin (fed + 1) after
