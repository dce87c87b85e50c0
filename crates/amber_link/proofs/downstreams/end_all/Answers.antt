-- All are ended.
use Rattle.amber_link.specs.Sides.{IsEnded}
use Rattle.amber_link.proofs.Sides.{all-ended, each-so_far}
use Rattle.amber_link.proofs.downstreams.end_all.Goals as goal

pub returns-clause-ends : goal.returns-clause-ends
returns-clause-ends c =
    all-ended c.args.outs.now c.loop-one.outs
    (each-so_far IsEnded c.args.outs.now c.loop-one.outs c.loop-one.one-index c.loop-one.auto.outs c.loop-one-test.false c.loop-one.invariant.ended)
