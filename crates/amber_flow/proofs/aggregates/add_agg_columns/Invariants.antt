use Rattle.std.proofs.Common.{◌≡◌, ◌++◌, map, take}
use Rattle.std.specs.List.{filter_map}
use Rattle.amber_flow.specs.Aggregates.{agg_column}
use Rattle.amber_flow.proofs.aggregates.add_agg_columns.Given as goal

abbrev pub invariant-loop-text : goal.invariant-loop-text
invariant-loop-text l = l.made.items ≡ l.fn.made.items ++ filter_map (agg_column l.columns) (map (λ text. text.now) (take l.text-index l.texts))
