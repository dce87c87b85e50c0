use Rattle.std.proofs.Common.{◌≡◌, drop, map}
use Rattle.amber_rows.specs.Chain.{each}
use Rattle.amber_flow.specs.Columns.{column_number}
use Rattle.amber_flow.proofs.ListFacts.{each_after}
use Rattle.amber_flow.proofs.columns.find_columns.Given as goal

abbrev pub invariant-loop-name : goal.invariant-loop-name
invariant-loop-name l =
    each (column_number l.columns) (map (λ name. name.now) l.names) ≡ each_after l.numbers.items (each (column_number l.columns) (map (λ name. name.now) (drop l.name-index l.names)))
