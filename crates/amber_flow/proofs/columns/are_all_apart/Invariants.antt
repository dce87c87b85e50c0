use Rattle.std.proofs.Common.{◌≡◌, drop}
use Rattle.amber_rows.specs.Columns.{names_of, are_apart}
use Rattle.amber_flow.proofs.columns.are_all_apart.Given as goal

abbrev pub invariant-loop-index : goal.invariant-loop-index
invariant-loop-index l = are_apart (names_of l.columns) ≡ are_apart (names_of (drop l.index l.columns))
