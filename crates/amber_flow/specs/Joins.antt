-- The joins of a workflow.
use Rattle.std.specs.Prelude.{◌≡◌, ℕ, ◌==◌, ◌&&◌, nat_lt, List, [], ◌∷◌, ◌++◌, length, codes, Option, Some, None, ok_or, Result, Ok, Bool, true, false}
use Rattle.std.specs.List.{filter_map}
use Rattle.serde_json.specs.Data.{Data}
use Rattle.amber_rows.specs.Suits.{same_kind}
use Rattle.amber_rows.specs.Columns.{AreIn, kinds_at, column_kind_at}
use Rattle.amber_rows.specs.declared.column.ColKind.{ColKind}
use Rattle.amber_rows.specs.declared.column.Column.{Column}
use Rattle.amber_rows.specs.declared.flow.What.TheVariants.{Join}
use Rattle.amber_rows.specs.declared.flow.Operator.{Operator}
use Rattle.amber_rows.specs.Chain.{◌>>=◌, each, require}
use Rattle.amber_flow.specs.Columns.{column_number}
use Rattle.amber_flow.specs.Fields.{text_at, texts_at}
use Rattle.amber_flow.specs.Inputs.{operator_columns, operator_number}
use Rattle.amber_flow.specs.declared.error.FlowWhy.{FlowWhy}
use Rattle.amber_flow.specs.declared.error.FlowWhy.TheVariants.{Column as NoColumn, Forward, Mismatch, Shape}
use Rattle.amber_flow.specs.declared.join.JoinKeys.{JoinKeys}
use Rattle.amber_flow.specs.declared.parts.Parts.{Parts}

-- at least one key, and as many on each side
abbrev pub are_paired : List (List ℕ) → List (List ℕ) → Bool
are_paired build probe = nat_lt 0 (length build) && (length build == length probe)

-- the same kinds at the same places
abbrev pub are_alike : List ColKind → List ColKind → Bool
are_alike [] [] = true
are_alike [] (other ∷ others) = false
are_alike (kind ∷ kinds) [] = false
are_alike (kind ∷ kinds) (other ∷ others) = same_kind kind other && are_alike kinds others

-- two kinds are there, and the same
abbrev pub are_same_kinds : Option ColKind → Option ColKind → Bool
are_same_kinds None other = false
are_same_kinds (Some kind) None = false
are_same_kinds (Some kind) (Some other) = same_kind kind other

-- the columns with these names on the two sides
unfoldable pub keys_of : List Column → List Column → List (List ℕ) → List (List ℕ) → Result JoinKeys FlowWhy
keys_of build probe build_names probe_names = do
  build_keys ← ok_or (each (column_number build) build_names) NoColumn
  probe_keys ← ok_or (each (column_number probe) probe_names) NoColumn
  alike ← require (are_alike (filter_map (column_kind_at build) build_keys) (filter_map (column_kind_at probe) probe_keys)) Mismatch
  Ok (record { build = build_keys; probe = probe_keys })

-- columns of the two sides, one pair for each name, and alike
pub record AreKeys (build probe : List Column) (names : List (List ℕ)) (keys : JoinKeys) : Type 0 where
  pub built : AreIn build keys.build
  pub probed : AreIn probe keys.probe
  pub count : length keys.build ≡ length names
  pub kinds : kinds_at build keys.build ≡ kinds_at probe keys.probe

-- a join of the rows of two earlier operators, whose keys have these names
unfoldable pub join_over : List Operator → ℕ → ℕ → List (List ℕ) → List (List ℕ) → Result Parts FlowWhy
join_over before build probe build_names probe_names = do
  built ← ok_or (operator_columns before build) Forward
  probed ← ok_or (operator_columns before probe) Forward
  keys ← keys_of built probed build_names probe_names
  Ok (record { what = Join build probe keys.build keys.probe; schema = probed ++ built })

unfoldable pub join_of : List Operator → Data → Result Parts FlowWhy
join_of before tree = do
  build_id ← ok_or (text_at (codes "build") tree) Shape
  probe_id ← ok_or (text_at (codes "probe") tree) Shape
  build_names ← ok_or (texts_at (codes "build_keys") tree) Shape
  probe_names ← ok_or (texts_at (codes "probe_keys") tree) Shape
  paired ← require (are_paired build_names probe_names) Shape
  build ← ok_or (operator_number before build_id) Forward
  probe ← ok_or (operator_number before probe_id) Forward
  join_over before build probe build_names probe_names
