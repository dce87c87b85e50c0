use Rattle.std.proofs.Common.{sym, ◌∙◌}
use Rattle.amber_flow.proofs.ColumnFacts.{columns-end, columns-more, columns-stop, names-push}
use Rattle.amber_flow.proofs.ReadFacts.{handed_on}
use Rattle.amber_flow.proofs.columns.read_columns.Goals as goal

pub returns-in_err-read_column-clause-columns : goal.returns-in_err-read_column-clause-columns
returns-in_err-read_column-clause-columns c =
    handed_on c.from_residual.result c.in_err-read_column.field-0.0 _ _ c.from_residual.ensures.1 c.in_err-read_column.ensures.column
    (λ why is. sym (c.loop-tree.invariant.0 ∙ columns-stop c.args.trees.now c.loop-tree.tree-index _ c.loop-tree.columns.items why c.loop-tree-test.true c.tree-item.is is))

pub loop-tree-preserved : goal.loop-tree-preserved
loop-tree-preserved c =
    let read = columns-more c.args.trees.now c.loop-tree.tree-index _ c.loop-tree.columns.items c.in_ok-read_column.field-0 c.loop-tree-test.true c.tree-item.is c.in_ok-read_column.ensures.column in
    rw c.in_ok-push.ensures.items (c.loop-tree.invariant.0 ∙ read, names-push c.loop-tree.columns.items c.in_ok-read_column.field-0 c.loop-tree.invariant.1 c.in_ok-read_column.ensures.named)

pub returns-clause-columns : goal.returns-clause-columns
returns-clause-columns c = rw c.new.ensures (sym (c.loop-tree.invariant.0 ∙ columns-end c.args.trees.now c.loop-tree.tree-index c.loop-tree.columns.items c.loop-tree-test.false))
