-- The values of all are those so far and those of what is left.
use Rattle.std.proofs.Common.{◌≡◌, ◌++◌, drop, option_map}
use Rattle.amber_group.specs.Finished.{aggregate_values}
use Rattle.amber_group.proofs.finish.with_values.Given as goal

abbrev pub invariant-loop-running : goal.invariant-loop-running
invariant-loop-running l =
    option_map (λ values. l.fn.cells.items ++ values) (aggregate_values l.runnings) ≡ option_map (λ values. l.cells.items ++ values) (aggregate_values (drop l.running-index l.runnings))
