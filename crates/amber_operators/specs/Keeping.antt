-- What a join and a group keep, with a row more and at the end.
use Rattle.std.specs.Prelude.{Bool, List, None, Option, Some, [], false, option_to_list, true, ◌++◌, ◌+◌, ◌∷◌, ◌≡◌, ◌≤◌}
use Rattle.amber_group.specs.Group.{Group, IsFedWith}
use Rattle.amber_join.specs.Join.{Join}
use Rattle.amber_rows.specs.Operators.{group_result}
use Rattle.amber_rows.specs.declared.value.Value.{Value}

-- what a join keeps of the build side, with this row where it suits
abbrev pub built_with : Bool → Option (List Value) → Join → Join
built_with builds None state = state
built_with true (Some row) state = record state { rows = state.rows ++ row ∷ [] }
built_with false (Some row) state = state

-- a group was fed this row, where it suits
pub record Feeds (found : Option (List Value)) (old new : Group) : Type 0 where
  pub keys : new.keys ≡ old.keys
  pub aggs : new.aggs ≡ old.aggs
  pub fed : new.fed ≤ old.fed + 1
  pub stands : (rows : List (List Value)) → IsFedWith old rows → IsFedWith new (rows ++ option_to_list found)

-- the rows of the groups, once nothing more can come
abbrev pub GivesGroups : Group → Bool → List (List Value) → Type 0
GivesGroups state true rows = (fed : List (List Value)) → IsFedWith state fed → rows ≡ group_result state.keys state.aggs fed
GivesGroups state false rows = rows ≡ []
