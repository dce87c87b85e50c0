-- A worker that was told nothing does nothing.
use Rattle.amber_leg.proofs.Sliced.{heeds-mail}
use Rattle.amber_leg.proofs.slices.heed_told.Goals as goal

pub returns-in_default-clause-heeds : goal.returns-in_default-clause-heeds
returns-in_default-clause-heeds c =
    heeds-mail c.take_told.result c.args.mail.now.ring c.take_told.new.self.ring c.args.worker.now c.in_default.not-Some c.take_told.ensures.taken c.take_told.ensures.none
