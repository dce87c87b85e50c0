-- What is kept of no row, for the aggregates so far.
use Rattle.std.proofs.Common.{◌≡◌, [], map, take}
use Rattle.amber_group.specs.Running.{running_of}
use Rattle.amber_group.proofs.totals.Totals.new.Given as goal

abbrev pub invariant-loop-agg : goal.invariant-loop-agg
invariant-loop-agg l = l.many.items ≡ map (running_of []) (take l.agg-index l.aggs)
