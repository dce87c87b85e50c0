use Rattle.std.proofs.Common.{◌≡◌, ◌++◌, map, take}
use Rattle.std.specs.List.{filter_map}
use Rattle.amber_flow.specs.Columns.{column_named}
use Rattle.amber_flow.proofs.columns.add_named.Given as goal

abbrev pub invariant-loop-name : goal.invariant-loop-name
invariant-loop-name l = l.made.items ≡ l.fn.made.items ++ filter_map (column_named l.columns) (map (λ name. name.now) (take l.name-index l.names))
