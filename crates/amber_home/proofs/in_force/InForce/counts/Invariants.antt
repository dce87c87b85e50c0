-- The first operators' counts are there.
use Rattle.std.proofs.Common.{◌≡◌, map, take}
use Rattle.amber_home.specs.Asked.{Asked}
use Rattle.amber_home.proofs.in_force.InForce.counts.Given as goal

abbrev pub invariant-loop-armed : goal.invariant-loop-armed
invariant-loop-armed l = l.counts.items ≡ map (λ (asked : Asked). asked.count) (take l.armed-index l.arms)
