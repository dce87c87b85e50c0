-- One worker more has given what it has.
use Rattle.std.proofs.Common.{◌≡◌, ◌∙◌, ◌++◌, rules}
use Rattle.amber_dataflow.proofs.Gathered.{given-next, given-none, given-whole}
use Rattle.amber_dataflow.proofs.gathering.copied.Goals as goal

pub returns : goal.returns
returns c =
    given-whole c.args.crew.now c.loop-worker.worker-index c.loop-worker.refused.items c.new-2.result c.loop-worker.rows c.loop-worker-test.false
    c.loop-worker.invariant c.new-2.ensures

pub loop-worker-init : goal.loop-worker-init
loop-worker-init c = given-none c.new-refused.result.items c.new-rows.result c.new-refused.ensures.items (c.new-rows.ensures ∙ c.new.ensures.items)

pub loop-worker-preserved : goal.loop-worker-preserved
loop-worker-preserved c =
    let longer : c.append.new.self.items ≡ c.loop-worker.refused.items ++ c.in_ok-given.given.refused = search rules in
    given-next c.args.crew.now c.worker-item.result c.loop-worker.worker-index c.in_ok-given.given c.loop-worker.refused.items c.append.new.self.items c.loop-worker.rows
    c.loop-worker-test.true c.worker-item.is c.loop-worker.invariant c.in_ok-given.ensures longer
