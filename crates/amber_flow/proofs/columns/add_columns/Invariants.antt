use Rattle.std.proofs.Common.{◌≡◌, ◌++◌, take}
use Rattle.amber_flow.proofs.columns.add_columns.Given as goal

abbrev pub invariant-loop-column : goal.invariant-loop-column
invariant-loop-column l = l.made.items ≡ l.fn.made.items ++ take l.column-index l.columns
