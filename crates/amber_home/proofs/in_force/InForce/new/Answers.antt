-- All operators' arms are there.
use Rattle.std.proofs.Common.{refl}
use Rattle.std.proofs.lemmas.List.{take_all}
use Rattle.amber_home.proofs.in_force.InForce.new.Goals as goal

pub returns : goal.returns
returns c =
    rw (c.loop-operator.invariant.1, take_all c.loop-operator.operator-index c.get-operators.result.now c.loop-operator-test.false, c.loop-operator.invariant.0) refl
