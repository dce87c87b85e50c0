-- What one row more makes of what is kept for an aggregate.
use Rattle.std.specs.Prelude.{ℕ, ◌+◌, ◌*◌, ◌^◌, ◌≤◌, ℤ, pos, ◌+ℤ◌, ◌≤ℤ◌, List, Option, Some, None, Bool, if◌then◌else◌}
use Rattle.std.specs.List.{AllByRecursion}
use Rattle.std.specs.Ordering.{is_gt, is_lt}
use Rattle.std.specs.declared.cmp.Ordering.{Ordering}
use Rattle.amber_rows.specs.Lists.{nth}
use Rattle.amber_rows.specs.Operators.{number_of}
use Rattle.amber_rows.specs.Order.{value_cmp}
use Rattle.amber_rows.specs.declared.value.Value.{Value}
use Rattle.amber_group.specs.declared.running.Running.{Running}
use Rattle.amber_group.specs.declared.running.Running.TheVariants.{Count, Sum, Min, Max}

-- the cell of a row where it is better than the best so far, or the first
abbrev pub winner : (Ordering → Bool) → Option Value → Option Value → Option Value
winner better best None = None
winner better None (Some cell) = Some cell
winner better (Some old) (Some cell) = if better (value_cmp cell old) then Some cell else None

-- the new best cell, where a row has one
unfoldable pub change_of : List Value → Running → Option Value
change_of row (Count rows) = None
change_of row (Sum column total) = None
change_of row (Min column best) = winner is_lt best (nth row column)
change_of row (Max column best) = winner is_gt best (nth row column)

-- what a cell adds to a sum; a text adds nothing
abbrev pub addend : Option Value → ℤ
addend None = pos 0
addend (Some cell) = number_of cell

-- what a row adds to a sum
abbrev pub addend_of : List Value → Running → ℤ
addend_of row (Count rows) = pos 0
addend_of row (Sum column total) = addend (nth row column)
addend_of row (Min column best) = pos 0
addend_of row (Max column best) = pos 0

abbrev pub first_of_both : Option Value → Option Value → Option Value
first_of_both None best = best
first_of_both (Some cell) best = Some cell

-- one row more, where this is the new best cell if there is one
unfoldable pub with_best : List Value → Option Value → Running → Running
with_best row change (Count rows) = Count (rows + 1)
with_best row change (Sum column total) = Sum column (total +ℤ addend (nth row column))
with_best row change (Min column best) = Min column (first_of_both change best)
with_best row change (Max column best) = Max column (first_of_both change best)

-- one row more
abbrev pub running_after : List Value → Running → Running
running_after row running = with_best row (change_of row running) running

-- ---- how large the numbers can be after a given number of rows

abbrev pub IsSumWithin : ℕ → ℤ → Type 0
IsSumWithin rows total = (total ≤ℤ pos (rows * 2 ^ 63)) × (pos 0 ≤ℤ (total +ℤ pos (rows * 2 ^ 63)))

unfoldable pub IsWithin : ℕ → Running → Type 0
IsWithin rows (Count n) = n ≤ rows
IsWithin rows (Sum column total) = IsSumWithin rows total
IsWithin rows (Min column best) = Unit {0}
IsWithin rows (Max column best) = Unit {0}

abbrev pub AreWithin : ℕ → List Running → Type 0
AreWithin rows runnings = AllByRecursion (IsWithin rows) runnings

abbrev pub GroupsWithin : ℕ → List (List Value × List Running) → Type 0
GroupsWithin rows groups = AllByRecursion (λ group. AreWithin rows group.1) groups
