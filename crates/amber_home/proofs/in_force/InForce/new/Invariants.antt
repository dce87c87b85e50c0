-- The first operators' arms are there.
use Rattle.std.proofs.Common.{◌≡◌, map, take}
use Rattle.amber_meaning.specs.State.{first_constants}
use Rattle.amber_home.specs.Asked.{no_asked}
use Rattle.amber_rows.specs.declared.flow.Operator.{Operator}
use Rattle.amber_home.proofs.in_force.InForce.new.Given as goal

abbrev pub invariant-loop-operator : goal.invariant-loop-operator
invariant-loop-operator l =
    (l.operators ≡ l.fn.flow)
    × (l.arms.items ≡ map (λ (operator : Operator). record no_asked { constants = first_constants operator.what }) (take l.operator-index l.operators))
