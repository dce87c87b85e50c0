use Rattle.std.proofs.Common.{◌≡◌, drop, map}
use Rattle.serde_json.specs.Find.{as_str}
use Rattle.serde_json.specs.View.{view}
use Rattle.amber_rows.specs.Chain.{each}
use Rattle.amber_flow.proofs.ListFacts.{each_after}
use Rattle.amber_flow.proofs.fields.read_texts.Given as goal

abbrev pub invariant-loop-tree : goal.invariant-loop-tree
invariant-loop-tree l =
    each as_str (map view l.trees) ≡ each_after (map (λ text. text.now) l.texts.items) (each as_str (map view (drop l.tree-index l.trees)))
