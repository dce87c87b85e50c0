-- What is kept of the rows of a group for an aggregate.
use Rattle.std.specs.Prelude.{List, length}
use Rattle.amber_rows.specs.Operators.{cells_at, greatest_value, least_value, total_of}
use Rattle.amber_rows.specs.declared.value.Value.{Value}
use Rattle.amber_rows.specs.declared.agg.Agg.{Agg}
use Rattle.amber_rows.specs.declared.agg.Agg.TheVariants as agg
use Rattle.amber_group.specs.declared.running.Running.{Running}
use Rattle.amber_group.specs.declared.running.Running.TheVariants.{Count, Sum, Min, Max}

-- the number of rows, the exact sum, the least cell and the greatest
unfoldable pub running_of : List (List Value) → Agg → Running
running_of rows agg.Count = Count (length rows)
running_of rows (agg.Sum column) = Sum column (total_of (cells_at column rows))
running_of rows (agg.Min column) = Min column (least_value (cells_at column rows))
running_of rows (agg.Max column) = Max column (greatest_value (cells_at column rows))
