-- The rows of groups, from what is kept of them.
use Rattle.std.specs.Prelude.{◌++◌, pos, List, [], ◌∷◌, Option, Some, option_map, option_and_then}
use Rattle.std.specs.List.{filter_map}
use Rattle.amber_rows.specs.Operators.{int_value, key_if_none}
use Rattle.amber_rows.specs.declared.value.Value.{Value}
use Rattle.amber_group.specs.declared.running.Running.{Running}
use Rattle.amber_group.specs.declared.running.Running.TheVariants.{Count, Sum, Min, Max}

-- the value of an aggregate; none where a sum leaves 64 bits
unfoldable pub value_of : Running → Option Value
value_of (Count rows) = int_value (pos rows)
value_of (Sum column total) = int_value total
value_of (Min column best) = best
value_of (Max column best) = best

-- a value for each aggregate, where each has one
unfoldable pub aggregate_values : List Running → Option (List Value)
aggregate_values [] = Some []
aggregate_values (running ∷ runnings) = option_and_then (λ cell. option_map (λ cells. cell ∷ cells) (aggregate_values runnings)) (value_of running)

-- the row of a group, if its aggregates have values
abbrev pub finished_row : List Value × List Running → Option (List Value)
finished_row group = option_map (λ cells. group.0 ++ cells) (aggregate_values group.1)

abbrev pub finished_rows : List (List Value × List Running) → List (List Value)
finished_rows groups = filter_map finished_row groups

-- the keys of the groups that have no row
abbrev pub refused_of : List (List Value × List Running) → List (List Value)
refused_of groups = filter_map (λ group. key_if_none group.0 (finished_row group)) groups
