-- Aggregate by aggregate.
use Rattle.std.proofs.Common.{◌∙◌, sym}
use Rattle.amber_group.proofs.Finishing.{values-end, values-go, values-stop}
use Rattle.amber_group.proofs.finish.with_values.Goals as goal

pub returns-in_default : goal.returns-in_default
returns-in_default c =
    sym (c.loop-running.invariant
    ∙ values-stop c.args.runnings.now c.loop-running.running-index c.running-item.result c.loop-running.cells.items c.loop-running-test.true c.running-item.is
    (sym c.in_ok-value.ensures ∙ c.in_default.is))

pub loop-running-preserved : goal.loop-running-preserved
loop-running-preserved c =
    c.loop-running.invariant
    ∙ values-go c.args.runnings.now c.loop-running.running-index c.running-item.result c.loop-running.cells.items c.push.new.self.items c.in-Some.value c.loop-running-test.true c.running-item.is
    (sym c.in_ok-value.ensures ∙ c.in-Some.is) c.in_ok-push.ensures.items

pub returns : goal.returns
returns c = sym (c.loop-running.invariant ∙ values-end c.args.runnings.now c.loop-running.running-index c.loop-running.cells.items c.loop-running-test.false)
