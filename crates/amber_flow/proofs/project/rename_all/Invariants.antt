use Rattle.std.proofs.Common.{◌≡◌, take, map}
use Rattle.std.specs.List.{filter_map}
use Rattle.serde_json.specs.View.{view}
use Rattle.amber_flow.specs.Columns.{renaming_of}
use Rattle.amber_flow.proofs.project.rename_all.Given as goal

abbrev pub invariant-loop-pair : goal.invariant-loop-pair
invariant-loop-pair l = l.made.items ≡ filter_map (renaming_of l.columns) (map view (take l.pair-index l.pairs))
