use Rattle.amber_flow.proofs.OperatorFacts.{IsRead}
use Rattle.amber_flow.proofs.read.read_operators.Given as goal

abbrev pub invariant-loop-tree : goal.invariant-loop-tree
invariant-loop-tree l = IsRead l.trees l.tree-index l.operators.items
