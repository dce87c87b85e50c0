-- The cells of the columns so far.
use Rattle.std.proofs.Common.{◌≡◌, take}
use Rattle.std.specs.List.{filter_map}
use Rattle.amber_rows.specs.Lists.{nth}
use Rattle.amber_rows.proofs.row.Row.pick.Given as goal

abbrev pub invariant-loop-column : goal.invariant-loop-column
invariant-loop-column l = l.cells.items ≡ filter_map (nth l.self) (take l.column-index l.numbers)
