-- What the state of a join is seen as.
use Rattle.std.specs.Prelude.{◌≡◌, ℕ, List, [], ◌∷◌, ◌++◌, Bool}
use Rattle.amber_rows.specs.Operators.{pick_cells}
use Rattle.amber_rows.specs.declared.value.Value.{Value}

-- the columns by which rows of each side are compared, the build rows in the order in which they came, and whether that was all
pub record Join : Type 0 where
  pub build_keys : List ℕ
  pub probe_keys : List ℕ
  pub rows : List (List Value)
  pub sealed : Bool

-- the row that came last has this key
abbrev pub CameLast : List Value → Join → Type 0
CameLast key state = (rows : List (List Value)) × (row : List Value) × (state.rows ≡ rows ++ row ∷ []) × (key ≡ pick_cells state.build_keys row)
