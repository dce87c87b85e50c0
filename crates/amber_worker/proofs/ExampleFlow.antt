-- The workflow of the example: the numbers of a file that are 2 or more.
use Rattle.std.proofs.Common.{◌≡◌, ◌<◌, ℕ, zero, suc, pos, List, [], ◌∷◌, codes, refl, arith}
use Rattle.amber_rows.specs.FlowRules.{AreNext, IsFlow, IsNext, ends_in_sink, reader_count}
use Rattle.amber_rows.specs.Columns.{AreColumns, are_apart, is_id}
use Rattle.amber_rows.specs.declared.value.Value.TheVariants as value
use Rattle.amber_rows.specs.declared.column.ColKind.TheVariants as kind
use Rattle.amber_rows.specs.declared.column.Column.{Column}
use Rattle.amber_rows.specs.declared.cond.Cmp.TheVariants as cmp
use Rattle.amber_rows.specs.declared.flow.Operator.{Operator}
use Rattle.amber_rows.specs.declared.flow.What.TheVariants as what

abbrev pub numbers : List Column
numbers = record { name = codes "n"; kind = kind.Int } ∷ []

abbrev pub scan : Operator
scan = record { id = codes "all"; what = what.Scan (codes "n.csv"); schema = numbers; workers = 1 }

abbrev pub filter : Operator
filter = record { id = codes "big"; what = what.Filter 1 (record { column = 1; op = cmp.Ge; constant = value.Int (pos 2) }); schema = numbers; workers = 1 }

abbrev pub sink : Operator
sink = record { id = codes "out"; what = what.Sink 2; schema = numbers; workers = 1 }

abbrev pub from_two : List Operator
from_two = scan ∷ filter ∷ sink ∷ []

-- ---- it is a workflow

columns : AreColumns numbers
unfolding are_apart
columns = record { some = omega arith; few = omega arith; apart = refl }

scan_stands : IsNext [] scan
unfolding is_id
scan_stands = record { named = refl; fresh = refl; columns = columns; kind = (omega arith, omega arith, refl); some_workers = omega arith; few_workers = omega arith; one_at_sink = λ e. refl }

filter_stands : IsNext (scan ∷ []) filter
unfolding is_id
filter_stands = record { named = refl; fresh = refl; columns = columns; kind = (refl, refl); some_workers = omega arith; few_workers = omega arith; one_at_sink = λ e. refl }

sink_stands : IsNext (scan ∷ filter ∷ []) sink
unfolding is_id
sink_stands = record { named = refl; fresh = refl; columns = columns; kind = refl; some_workers = omega arith; few_workers = omega arith; one_at_sink = λ e. refl }

once : (op : ℕ) → 0 < op → op < 3 → reader_count from_two op ≡ 1
unfolding reader_count
once zero some few = absurd (omega arith)
once (suc zero) some few = refl
once (suc (suc zero)) some few = refl
once (suc (suc (suc op))) some few = absurd (omega arith)

pub is_flow : IsFlow from_two
unfolding AreNext ends_in_sink
is_flow = record {
  some = omega arith;
  few = omega arith;
  operators = (scan_stands, (filter_stands, (sink_stands, tt)));
  ends = refl;
  read_once = once;
  few_workers = omega arith;
}
