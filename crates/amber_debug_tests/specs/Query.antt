-- The workflow of the tests: the numbers of a file that are 2 or more, with so many workers for its scan.
use Rattle.std.specs.Prelude.{ℕ, pos, List, [], ◌∷◌, codes}
use Rattle.amber_rows.specs.declared.value.Value.TheVariants as value
use Rattle.amber_rows.specs.declared.column.ColKind.TheVariants as kind
use Rattle.amber_rows.specs.declared.column.Column.{Column}
use Rattle.amber_rows.specs.declared.cond.Cmp.TheVariants as cmp
use Rattle.amber_rows.specs.declared.flow.Operator.{Operator}
use Rattle.amber_rows.specs.declared.flow.What.TheVariants as what

abbrev pub numbers : List Column
numbers = record { name = codes "n"; kind = kind.Int } ∷ []

abbrev pub scan_by : ℕ → Operator
scan_by scans = record { id = codes "all"; what = what.Scan (codes "n.csv"); schema = numbers; workers = scans }

abbrev pub filter_two : Operator
filter_two = record { id = codes "big"; what = what.Filter 1 (record { column = 1; op = cmp.Ge; constant = value.Int (pos 2) }); schema = numbers; workers = 1 }

abbrev pub sink_last : Operator
sink_last = record { id = codes "out"; what = what.Sink 2; schema = numbers; workers = 1 }

abbrev pub operators_by : ℕ → List Operator
operators_by scans = scan_by scans ∷ filter_two ∷ sink_last ∷ []
