use Rattle.std.proofs.Common.{◌+◌, List, [], ◌∷◌, ◌++◌, subst, sym, ◌∙◌, ap, arith}
use Rattle.amber_rows.specs.declared.flow.Operator.{Operator}
use Rattle.amber_flow.proofs.FlowFacts.{refused-at}
use Rattle.amber_flow.proofs.OperatorFacts.{IsRead, read-all, read-ends, read-more, read-none, read-stop}
use Rattle.amber_flow.proofs.read.read_operators.Goals as goal

pub loop-tree-init : goal.loop-tree-init
loop-tree-init c = rw c.new-operators.ensures.items (read-none c.args.trees.now)

pub returns-in-Err-clause-operators : goal.returns-in-Err-clause-operators
returns-in-Err-clause-operators c =
    let done = subst (λ (operators : List Operator). IsRead c.args.trees.now c.loop-tree.tree-index operators) (sym c.as_slice-before.ensures.value) c.loop-tree.invariant in
    rw c.at.ensures
    (refused-at _ c.in-Err.failure _ _ c.in-Err.ensures.operator (λ why is. read-stop c.args.trees.now c.loop-tree.tree-index _ c.as_slice-before.result.now why done c.loop-tree-test.true c.tree-item.is is))

pub loop-tree-preserved : goal.loop-tree-preserved
loop-tree-preserved c =
    let done = subst (λ (operators : List Operator). IsRead c.args.trees.now c.loop-tree.tree-index operators) (sym c.as_slice-before.ensures.value) c.loop-tree.invariant in
    let more = read-more c.args.trees.now c.loop-tree.tree-index _ c.as_slice-before.result.now c.in-Ok.operator done c.loop-tree-test.true c.tree-item.is c.in-Ok.ensures.operator c.in-Ok.ensures.next c.in-Ok.ensures.placed in
    let pushed = ap (λ (operators : List Operator). operators ++ c.in-Ok.operator ∷ []) c.as_slice-before.ensures.value ∙ sym c.in_ok-push-in-Ok.ensures.items in
    subst (λ (operators : List Operator). IsRead c.args.trees.now (c.loop-tree.tree-index + 1) operators) pushed more

pub returns-clause-operators : goal.returns-clause-operators
returns-clause-operators c = read-all c.args.trees.now c.loop-tree.tree-index _ c.loop-tree.invariant c.loop-tree-test.false

pub returns-clause-ends : goal.returns-clause-ends
returns-clause-ends c = λ some. read-ends c.args.trees.now c.loop-tree.tree-index _ c.loop-tree.invariant (omega arith) some
