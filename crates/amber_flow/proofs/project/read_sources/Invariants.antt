use Rattle.std.proofs.Common.{◌≡◌, drop, map}
use Rattle.serde_json.specs.View.{view}
use Rattle.amber_rows.specs.Chain.{each}
use Rattle.amber_flow.specs.Columns.{source_of}
use Rattle.amber_flow.proofs.ListFacts.{each_after}
use Rattle.amber_flow.proofs.project.read_sources.Given as goal

abbrev pub invariant-loop-pair : goal.invariant-loop-pair
invariant-loop-pair l =
    each source_of (map view l.pairs) ≡ each_after (map (λ name. name.now) l.names.items) (each source_of (map view (drop l.pair-index l.pairs)))
