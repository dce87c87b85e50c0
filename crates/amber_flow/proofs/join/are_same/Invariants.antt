use Rattle.std.proofs.Common.{◌≡◌, drop}
use Rattle.std.specs.List.{filter_map}
use Rattle.amber_rows.specs.Columns.{column_kind_at}
use Rattle.amber_flow.specs.Joins.{are_alike}
use Rattle.amber_flow.proofs.join.are_same.Given as goal

abbrev pub invariant-loop-index : goal.invariant-loop-index
invariant-loop-index l =
    let kinds = filter_map (column_kind_at l.build) l.build_keys in
    let others = filter_map (column_kind_at l.probe) l.probe_keys in
    are_alike kinds others ≡ are_alike (drop l.index kinds) (drop l.index others)
