use Rattle.std.proofs.Common.{◌≡◌, drop, map, true}
use Rattle.std.specs.List.{list_all}
use Rattle.serde_json.specs.View.{view}
use Rattle.amber_rows.specs.Columns.{names_of, is_column_name}
use Rattle.amber_flow.specs.Columns.{columns_of}
use Rattle.amber_flow.proofs.ColumnFacts.{columns_after}
use Rattle.amber_flow.proofs.columns.read_columns.Given as goal

abbrev pub invariant-loop-tree : goal.invariant-loop-tree
invariant-loop-tree l =
    (columns_of (map view l.trees) ≡ columns_after l.columns.items (columns_of (map view (drop l.tree-index l.trees))))
    × (list_all is_column_name (names_of l.columns.items) ≡ true)
