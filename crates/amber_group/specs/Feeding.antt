-- Several rows that a group is fed, one after the other.
use Rattle.std.specs.Prelude.{◌≡◌, List, [], ◌∷◌}
use Rattle.amber_rows.specs.declared.value.Value.{Value}
use Rattle.amber_group.specs.Group.{FeedsRow, Group}

-- a state was fed each of these rows in turn
unfoldable pub FeedsEach : List (List Value) → Group → Group → Type 0
FeedsEach [] old new = new ≡ old
FeedsEach (row ∷ rows) old new = (next : Group) × FeedsRow row old next × FeedsEach rows next new
