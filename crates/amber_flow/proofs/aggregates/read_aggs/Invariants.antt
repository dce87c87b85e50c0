use Rattle.std.proofs.Common.{◌≡◌, drop, map}
use Rattle.amber_rows.specs.Chain.{each}
use Rattle.amber_flow.specs.Aggregates.{agg_of}
use Rattle.amber_flow.proofs.ListFacts.{each_after}
use Rattle.amber_flow.proofs.aggregates.read_aggs.Given as goal

abbrev pub invariant-loop-text : goal.invariant-loop-text
invariant-loop-text l =
    each (agg_of l.columns) (map (λ name. name.now) l.texts) ≡ each_after l.aggs.items (each (agg_of l.columns) (map (λ name. name.now) (drop l.text-index l.texts)))
