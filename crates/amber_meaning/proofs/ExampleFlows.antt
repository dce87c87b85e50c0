-- The workflows of the examples are workflows.
use Rattle.std.proofs.Common.{◌≡◌, ◌<◌, ◌≤◌, ℕ, zero, suc, pos, List, [], ◌∷◌, ◌++◌, length, map, codes, refl, false, true, arith}
use Rattle.std.proofs.lemmas.List.Elements.{All-cons, All-nil}
use Rattle.amber_rows.specs.FlowRules.{AreNext, IsFlow, IsNext, ends_in_sink, reader_count}
use Rattle.amber_rows.specs.Columns.{AreColumns, AreIn, are_apart, is_among, is_id}
use Rattle.amber_rows.specs.Kinds.{IsKind}
use Rattle.amber_rows.specs.declared.value.Value.TheVariants as value
use Rattle.amber_rows.specs.declared.agg.Agg.TheVariants as agg
use Rattle.amber_rows.specs.declared.column.ColKind.TheVariants as kind
use Rattle.amber_rows.specs.declared.column.Column.{Column}
use Rattle.amber_rows.specs.declared.cond.Cmp.TheVariants as cmp
use Rattle.amber_rows.specs.declared.flow.Operator.{Operator}
use Rattle.amber_rows.specs.declared.flow.What.TheVariants as what
use Rattle.amber_meaning.proofs.ExampleCases.{orders, prices, scan_orders, with_prices}
use Rattle.amber_meaning.proofs.ExampleFiles.{pairs, straight, summed, sums}

-- ---- further workflows

abbrev pub numbers : List Column
numbers = record { name = codes "n"; kind = kind.Int } ∷ []

abbrev pub scan_numbers : Operator
scan_numbers = record { id = codes "o"; what = what.Scan (codes "o.csv"); schema = numbers; workers = 1 }

-- the numbers that are 2 or more
abbrev pub from_two : List Operator
from_two =
    scan_numbers
    ∷ record { id = codes "f"; what = what.Filter 1 (record { column = 1; op = cmp.Ge; constant = value.Int (pos 2) }); schema = numbers; workers = 1 }
    ∷ record { id = codes "s"; what = what.Sink 2; schema = numbers; workers = 1 } ∷ []

-- how many numbers there are
abbrev pub count : List Column
count = record { name = codes "count"; kind = kind.Int } ∷ []

abbrev pub counted : List Operator
counted =
    scan_numbers
    ∷ record { id = codes "g"; what = what.Group 1 [] (agg.Count ∷ []); schema = count; workers = 1 }
    ∷ record { id = codes "s"; what = what.Sink 2; schema = count; workers = 1 } ∷ []

-- for each key of pairs how many there are, and the sum, the least and the greatest of their values
abbrev pub tallies : List Column
tallies =
    record { name = codes "k"; kind = kind.Text } ∷ record { name = codes "count"; kind = kind.Int } ∷ record { name = codes "sum:v"; kind = kind.Int }
    ∷ record { name = codes "min:v"; kind = kind.Int } ∷ record { name = codes "max:v"; kind = kind.Int } ∷ []

abbrev pub tallied : List Operator
tallied =
    record { id = codes "o"; what = what.Scan (codes "o.csv"); schema = pairs; workers = 1 }
    ∷ record { id = codes "g"; what = what.Group 1 (1 ∷ []) (agg.Count ∷ agg.Sum 2 ∷ agg.Min 2 ∷ agg.Max 2 ∷ []); schema = tallies; workers = 1 }
    ∷ record { id = codes "s"; what = what.Sink 2; schema = tallies; workers = 1 } ∷ []

-- the items of orders, and the orders' numbers
abbrev pub things : List Column
things = record { name = codes "thing"; kind = kind.Text } ∷ record { name = codes "n"; kind = kind.Int } ∷ []

abbrev pub by_thing : List Operator
by_thing =
    scan_orders
    ∷ record { id = codes "p"; what = what.Project 1 (2 ∷ 1 ∷ []); schema = things; workers = 1 }
    ∷ record { id = codes "s"; what = what.Sink 2; schema = things; workers = 1 } ∷ []

-- ---- operators one by one

stands : (before : List Operator) (o : Operator) → is_id o.id ≡ true → is_among o.id (map (λ earlier. earlier.id) before) ≡ false → AreColumns o.schema → IsKind before o.what o.schema → o.workers ≡ 1
    → IsNext before o
stands before o named fresh columns kind one = record {
  named = named;
  fresh = fresh;
  columns = columns;
  kind = kind;
  some_workers = omega (arith, one);
  few_workers = omega (arith, one);
  one_at_sink = λ e. one;
}

orders_fit : AreColumns orders
unfolding are_apart
orders_fit = record { some = omega arith; few = omega arith; apart = refl }

prices_fit : AreColumns prices
unfolding are_apart
prices_fit = record { some = omega arith; few = omega arith; apart = refl }

both_fit : AreColumns (orders ++ prices)
unfolding are_apart
both_fit = record { some = omega arith; few = omega arith; apart = refl }

numbers_fit : AreColumns numbers
unfolding are_apart
numbers_fit = record { some = omega arith; few = omega arith; apart = refl }

count_fits : AreColumns count
unfolding are_apart
count_fits = record { some = omega arith; few = omega arith; apart = refl }

things_fit : AreColumns things
unfolding are_apart
things_fit = record { some = omega arith; few = omega arith; apart = refl }

pairs_fit : AreColumns pairs
unfolding are_apart
pairs_fit = record { some = omega arith; few = omega arith; apart = refl }

sums_fit : AreColumns sums
unfolding are_apart
sums_fit = record { some = omega arith; few = omega arith; apart = refl }

tallies_fit : AreColumns tallies
unfolding are_apart
tallies_fit = record { some = omega arith; few = omega arith; apart = refl }

-- ---- each operator is read once

once_of_two : (flow : List Operator) → reader_count flow 1 ≡ 1 → (op : ℕ) → 0 < op → op < 2 → reader_count flow op ≡ 1
once_of_two flow one zero some few = absurd (omega arith)
once_of_two flow one (suc zero) some few = one
once_of_two flow one (suc (suc op)) some few = absurd (omega arith)

once_of_three : (flow : List Operator) → reader_count flow 1 ≡ 1 → reader_count flow 2 ≡ 1 → (op : ℕ) → 0 < op → op < 3 → reader_count flow op ≡ 1
once_of_three flow one two zero some few = absurd (omega arith)
once_of_three flow one two (suc zero) some few = one
once_of_three flow one two (suc (suc zero)) some few = two
once_of_three flow one two (suc (suc (suc op))) some few = absurd (omega arith)

once_of_four : (flow : List Operator) → reader_count flow 1 ≡ 1 → reader_count flow 2 ≡ 1 → reader_count flow 3 ≡ 1 → (op : ℕ) → 0 < op → op < 4 → reader_count flow op ≡ 1
once_of_four flow one two three zero some few = absurd (omega arith)
once_of_four flow one two three (suc zero) some few = one
once_of_four flow one two three (suc (suc zero)) some few = two
once_of_four flow one two three (suc (suc (suc zero))) some few = three
once_of_four flow one two three (suc (suc (suc (suc op)))) some few = absurd (omega arith)

-- ---- the workflows

AreIn-none : (columns : List Column) → AreIn columns []
AreIn-none columns = All-nil _

AreIn-more : (columns : List Column) (number : ℕ) (numbers : List ℕ) → 0 < number → number ≤ length columns → AreIn columns numbers → AreIn columns (number ∷ numbers)
AreIn-more columns number numbers some few rest = All-cons (λ n. (0 < n) × (n ≤ length columns)) number numbers (some, few) rest

pub straight-is-flow : IsFlow straight
unfolding AreNext ends_in_sink is_id reader_count
straight-is-flow = record {
  some = omega arith;
  few = omega arith;
  operators = (stands _ _ refl refl orders_fit (omega arith, omega arith, refl) refl, (stands _ _ refl refl orders_fit refl refl, tt));
  ends = refl;
  read_once = once_of_two straight refl;
  few_workers = omega arith;
}

pub from_two-is-flow : IsFlow from_two
unfolding AreNext ends_in_sink is_id reader_count
from_two-is-flow = record {
  some = omega arith;
  few = omega arith;
  operators = (
    stands _ _ refl refl numbers_fit (omega arith, omega arith, refl) refl,
    (stands _ _ refl refl numbers_fit (refl, refl) refl, (stands _ _ refl refl numbers_fit refl refl, tt)),
  );
  ends = refl;
  read_once = once_of_three from_two refl refl;
  few_workers = omega arith;
}

pub counted-is-flow : IsFlow counted
unfolding AreNext ends_in_sink is_id reader_count
counted-is-flow = record {
  some = omega arith;
  few = omega arith;
  operators = (
    stands _ _ refl refl numbers_fit (omega arith, omega arith, refl) refl,
    (
      stands _ _ refl refl count_fits ((omega arith, omega arith), AreIn-none numbers, refl, refl) refl,
      (stands _ _ refl refl count_fits refl refl, tt),
    ),
  );
  ends = refl;
  read_once = once_of_three counted refl refl;
  few_workers = omega arith;
}

pub summed-is-flow : IsFlow summed
unfolding AreNext ends_in_sink is_id reader_count
summed-is-flow = record {
  some = omega arith;
  few = omega arith;
  operators = (
    stands _ _ refl refl pairs_fit (omega arith, omega arith, refl) refl,
    (
      stands _ _ refl refl sums_fit ((omega arith, omega arith), AreIn-more pairs 1 [] (omega arith) (omega arith) (AreIn-none pairs), refl, refl) refl,
      (stands _ _ refl refl sums_fit refl refl, tt),
    ),
  );
  ends = refl;
  read_once = once_of_three summed refl refl;
  few_workers = omega arith;
}

pub tallied-is-flow : IsFlow tallied
unfolding AreNext ends_in_sink is_id reader_count
tallied-is-flow = record {
  some = omega arith;
  few = omega arith;
  operators = (
    stands _ _ refl refl pairs_fit (omega arith, omega arith, refl) refl,
    (
      stands _ _ refl refl tallies_fit ((omega arith, omega arith), AreIn-more pairs 1 [] (omega arith) (omega arith) (AreIn-none pairs), refl, refl) refl,
      (stands _ _ refl refl tallies_fit refl refl, tt),
    ),
  );
  ends = refl;
  read_once = once_of_three tallied refl refl;
  few_workers = omega arith;
}

pub by_thing-is-flow : IsFlow by_thing
unfolding AreNext ends_in_sink is_id reader_count
by_thing-is-flow = record {
  some = omega arith;
  few = omega arith;
  operators = (
    stands _ _ refl refl orders_fit (omega arith, omega arith, refl) refl,
    (
      stands _ _ refl refl things_fit ((omega arith, omega arith), AreIn-more orders 2 (1 ∷ []) (omega arith) (omega arith) (AreIn-more orders 1 [] (omega arith) (omega arith) (AreIn-none orders)), refl, refl) refl,
      (stands _ _ refl refl things_fit refl refl, tt),
    ),
  );
  ends = refl;
  read_once = once_of_three by_thing refl refl;
  few_workers = omega arith;
}

pub with_prices-is-flow : IsFlow with_prices
unfolding AreNext ends_in_sink is_id reader_count
with_prices-is-flow = record {
  some = omega arith;
  few = omega arith;
  operators = (
    stands _ _ refl refl prices_fit (omega arith, omega arith, refl) refl,
    (
      stands _ _ refl refl orders_fit (omega arith, omega arith, refl) refl,
      (
        stands _ _ refl refl both_fit
            ((omega arith, omega arith), (omega arith, omega arith), AreIn-more prices 1 [] (omega arith) (omega arith) (AreIn-none prices), AreIn-more orders 2 [] (omega arith) (omega arith) (AreIn-none orders), omega arith, refl, refl) refl,
        (stands _ _ refl refl both_fit refl refl, tt),
      ),
    ),
  );
  ends = refl;
  read_once = once_of_four with_prices refl refl refl;
  few_workers = omega arith;
}
