-- The stops of the first workers are there.
use Rattle.std.proofs.Common.{◌≡◌, ◌++◌}
use Rattle.std.specs.List.{flat_map}
use Rattle.amber_rows.specs.Lists.{numbers_below}
use Rattle.amber_home.specs.Leg.{stop_of_worker}
use Rattle.amber_home.proofs.stops.add_held.Given as goal

abbrev pub invariant-workers : goal.invariant-workers
invariant-workers l = l.stops.items ≡ l.initial.stops.items ++ flat_map (stop_of_worker l.dataflow) (numbers_below l.worker)
