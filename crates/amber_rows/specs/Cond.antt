-- When a condition holds of a row.
use Rattle.std.specs.Prelude.{List, Option, Some, None, Bool, false}
use Rattle.std.specs.declared.cmp.Ordering.{Ordering}
use Rattle.std.specs.Ordering.{is_eq, is_ne, is_lt, is_le, is_gt, is_ge}
use Rattle.amber_rows.specs.Lists.{nth}
use Rattle.amber_rows.specs.Order.{value_cmp}
use Rattle.amber_rows.specs.declared.value.Value.{Value}
use Rattle.amber_rows.specs.declared.cond.Cmp.{Cmp}
use Rattle.amber_rows.specs.declared.cond.Cmp.TheVariants.{Eq, Ne, Lt, Le, Gt, Ge}
use Rattle.amber_rows.specs.declared.cond.Cond.{Cond}

-- whether a sign is met where a cell compares so with the constant
abbrev pub meets : Cmp → Ordering → Bool
meets Eq found = is_eq found
meets Ne found = is_ne found
meets Lt found = is_lt found
meets Le found = is_le found
meets Gt found = is_gt found
meets Ge found = is_ge found

abbrev pub cell_holds : Cond → Option Value → Bool
cell_holds cond None = false
cell_holds cond (Some cell) = meets cond.op (value_cmp cell cond.constant)

-- whether the cell of the condition's column compares with the constant as the sign says; false where there is no such column
unfoldable pub holds_of : Cond → List Value → Bool
holds_of cond row = cell_holds cond (nth row cond.column)
