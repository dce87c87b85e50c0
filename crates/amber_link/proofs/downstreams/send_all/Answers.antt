-- What waits for one more was sent.
use Rattle.amber_link.specs.Sides.{HasSentOn}
use Rattle.amber_link.proofs.Sides.{each-so_far}
use Rattle.amber_link.proofs.downstreams.send_all.Goals as goal

pub returns-clause-forwards : goal.returns-clause-forwards
returns-clause-forwards c =
    each-so_far HasSentOn c.args.outs.now c.loop-one.outs c.loop-one.one-index c.loop-one.auto.outs c.loop-one-test.false c.loop-one.invariant.forwards
