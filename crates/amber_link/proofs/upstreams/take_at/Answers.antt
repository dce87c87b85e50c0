-- The first batch of the sender at the place was taken.
use Rattle.std.proofs.Common.{refl}
use Rattle.amber_link.proofs.Sides.{taken-there}
use Rattle.amber_link.proofs.upstreams.take_at.Goals as goal

pub returns-clause-taken : goal.returns-clause-taken
returns-clause-taken c =
    taken-there c.args.ins.now c.args.i c.index-ins-i.result c.take-batch.new.self c.take-batch.result _ _ _
    c.requires.there (c.requires.ready c.index-ins-i.result) refl refl refl c.take-batch.ensures.gives c.take-batch.ensures.is
