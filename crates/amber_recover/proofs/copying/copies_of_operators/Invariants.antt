-- The operators copied so far are the first ones.
use Rattle.std.proofs.Common.{◌≡◌, take}
use Rattle.amber_recover.proofs.copying.copies_of_operators.Given as goal

abbrev pub invariant-loop-operator : goal.invariant-loop-operator
invariant-loop-operator l = l.copies.items ≡ take l.operator-index l.operators
