use Rattle.std.proofs.Common.{refl}
use Rattle.amber_flow.proofs.TreeFacts.{tree-none, tree-some}
use Rattle.amber_flow.proofs.read.read_tree.Goals as goal

pub returns-in-Ok : goal.returns-in-Ok
returns-in-Ok c = tree-some c.args.bytes.now _ c.in-Ok.ensures.ok.0 c.in-Ok.ensures.ok.1

pub returns-in_default : goal.returns-in_default
returns-in_default c =
    (refl, refl, tree-none c.args.bytes.now (c.in-Err.ensures.err (λ memory. c.in_default.not-Memory (c.classify.ensures.memory.1 memory))))
