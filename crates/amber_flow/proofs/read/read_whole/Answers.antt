use Rattle.std.proofs.Common.{Ok, Err, sym, ◌∙◌}
use Rattle.serde_json.specs.View.{view}
use Rattle.amber_flow.proofs.FlowFacts.{flow-count, flow-read, flow-shape, whole-refused, whole-handed_on}
use Rattle.amber_flow.proofs.read.read_whole.Goals as goal

pub returns-in-Err : goal.returns-in-Err
returns-in-Err c = flow-shape (view c.args.tree.now) c.in-Err.why c.in-Err.ensures

pub returns-then-not-may_be_flow : goal.returns-then-not-may_be_flow
returns-then-not-may_be_flow c = flow-count (view c.args.tree.now) c.in-Ok.trees.now c.in-Ok.ensures c.if-not-may_be_flow.ensures

pub returns : goal.returns
returns c =
    sym (flow-read (view c.args.tree.now) c.in-Ok.trees.now (Ok c.in_ok-operators.operators.items) c.in-Ok.ensures c.if-not-may_be_flow.ensures c.in_ok-operators.ensures.operators)
    ∙ sym c.in_ok-make_flow.ensures.checked

pub returns-in_err-operators : goal.returns-in_err-operators
returns-in_err-operators c =
    whole-handed_on c.from_residual.result c.in_err-operators.field-0.0 _ _ c.from_residual.ensures.1 c.in_err-operators.ensures.operators
    (λ fault is. sym (flow-read (view c.args.tree.now) c.in-Ok.trees.now (Err fault) c.in-Ok.ensures c.if-not-may_be_flow.ensures is))

pub returns-in_err-make_flow : goal.returns-in_err-make_flow
returns-in_err-make_flow c =
    whole-refused c.from_residual-in_err-make_flow.result c.in_err-make_flow.field-0.0 _ c.from_residual-in_err-make_flow.ensures.1
    (sym (flow-read (view c.args.tree.now) c.in-Ok.trees.now (Ok c.in_ok-operators.operators.items) c.in-Ok.ensures c.if-not-may_be_flow.ensures c.in_ok-operators.ensures.operators)
    ∙ sym c.in_err-make_flow.ensures.checked)
