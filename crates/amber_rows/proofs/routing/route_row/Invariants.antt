-- The hash of the pieces of the columns so far.
use Rattle.std.proofs.Common.{◌≡◌, fold, take}
use Rattle.std.specs.List.{filter_map, flat_map}
use Rattle.amber_rows.specs.Lists.{nth}
use Rattle.amber_rows.specs.Routing.{fnv_step, key_piece}
use Rattle.amber_rows.proofs.routing.route_row.Given as goal

abbrev pub invariant-loop-column : goal.invariant-loop-column
invariant-loop-column l = l.hash ≡ fold fnv_step 14695981039346656037 (flat_map key_piece (filter_map (nth l.row) (take l.column-index l.columns)))
