-- The workflow of the tests, with so many workers for its scan, is one.
use Rattle.std.proofs.Common.{◌≡◌, ◌<◌, ◌≤◌, ℕ, zero, suc, [], ◌∷◌, refl, arith}
use Rattle.std.proofs.lemmas.Bool.{false≢true}
use Rattle.amber_rows.specs.FlowRules.{AreNext, IsFlow, IsNext, ends_in_sink, reader_count}
use Rattle.amber_rows.specs.Columns.{AreColumns, are_apart, is_id}
use Rattle.amber_meaning.specs.Plain.{scan_count}
use Rattle.amber_debug_tests.specs.Query.{filter_two, numbers, operators_by, scan_by, sink_last}

pub one-scan : (n : ℕ) → scan_count (operators_by n) ≡ 1
unfolding scan_count
one-scan n = refl

columns : AreColumns numbers
unfolding are_apart
columns = record { some = omega arith; few = omega arith; apart = refl }

scan_stands : (n : ℕ) → 0 < n → n ≤ 16 → IsNext [] (scan_by n)
unfolding is_id
scan_stands n some few = record { named = refl; fresh = refl; columns = columns; kind = (omega arith, omega arith, refl); some_workers = some; few_workers = few; one_at_sink = λ e. absurd (false≢true e) }

filter_stands : (n : ℕ) → IsNext (scan_by n ∷ []) filter_two
unfolding is_id
filter_stands n = record { named = refl; fresh = refl; columns = columns; kind = (refl, refl); some_workers = omega arith; few_workers = omega arith; one_at_sink = λ e. refl }

sink_stands : (n : ℕ) → IsNext (scan_by n ∷ filter_two ∷ []) sink_last
unfolding is_id
sink_stands n = record { named = refl; fresh = refl; columns = columns; kind = refl; some_workers = omega arith; few_workers = omega arith; one_at_sink = λ e. refl }

once : (n op : ℕ) → 0 < op → op < 3 → reader_count (operators_by n) op ≡ 1
unfolding reader_count
once n zero some few = absurd (omega arith)
once n (suc zero) some few = refl
once n (suc (suc zero)) some few = refl
once n (suc (suc (suc op))) some few = absurd (omega arith)

pub flow-by : (n : ℕ) → 0 < n → n ≤ 16 → IsFlow (operators_by n)
unfolding AreNext ends_in_sink
flow-by n some few = record {
  some = omega arith;
  few = omega arith;
  operators = (scan_stands n some few, (filter_stands n, (sink_stands n, tt)));
  ends = refl;
  read_once = once n;
  few_workers = omega (arith, few);
}
