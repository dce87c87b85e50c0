-- The first operators' arms were cleared, the others are as they were.
use Rattle.std.proofs.Common.{◌≡◌, ◌++◌, map, take, drop}
use Rattle.amber_home.specs.Asked.{without_asked}
use Rattle.amber_home.proofs.in_force.InForce.begin_leg.Given as goal

abbrev pub invariant-loop-arms : goal.invariant-loop-arms
invariant-loop-arms l = l.arms-items ≡ map without_asked (take l.arms-index l.initial.arms-items) ++ drop l.arms-index l.initial.arms-items
