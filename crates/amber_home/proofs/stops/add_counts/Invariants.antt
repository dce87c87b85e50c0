-- The counts of the first operators are there.
use Rattle.std.proofs.Common.{◌≡◌, ◌++◌, map, suc}
use Rattle.std.specs.List.{flat_map}
use Rattle.amber_rows.specs.Lists.{numbers_below}
use Rattle.amber_dataflow.specs.Dataflow.{rows_emitted}
use Rattle.amber_home.specs.Leg.{count_at, stop_of_count}
use Rattle.amber_home.proofs.stops.add_counts.Given as goal

abbrev pub invariant-loop-before : goal.invariant-loop-before
invariant-loop-before l = l.stops.items ≡ l.initial.stops.items ++ flat_map (λ op. stop_of_count op (count_at l.arms op) (rows_emitted l.dataflow op)) (map suc (numbers_below l.before))
