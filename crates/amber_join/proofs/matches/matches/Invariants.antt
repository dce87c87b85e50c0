-- The matches so far.
use Rattle.std.proofs.Common.{◌≡◌, ◌++◌, ◌∷◌, map, slice_get, take}
use Rattle.std.specs.List.{filter_map}
use Rattle.amber_join.proofs.matches.matches.Given as goal

abbrev pub invariant-loop-place : goal.invariant-loop-place
invariant-loop-place l = l.made.items ≡ map (λ other. l.probe ++ other) (filter_map (slice_get l.build) (l.first ∷ take l.place-index l.more))
