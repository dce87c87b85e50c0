-- The hasher was fed the cells so far.
use Rattle.std.proofs.Common.{◌≡◌, fold, take}
use Rattle.std.specs.List.{flat_map}
use Rattle.amber_keys.specs.Hashing.{cell_writes}
use Rattle.amber_keys.proofs.key.KeyHash.hash.Given as goal

abbrev pub invariant-loop-cell : goal.invariant-loop-cell
invariant-loop-cell g l = l.state ≡ fold g.H.Hasher.write l.fn.state (flat_map cell_writes (take l.cell-index l.cells))
