-- The end is pushed.
use Rattle.amber_link.proofs.Carried.{closes-end}
use Rattle.amber_link.proofs.ends.Out.end_reserved.Goals as goal

pub returns-clause-closes : goal.returns-clause-closes
returns-clause-closes c = closes-end c.args.self.now.kept c.end_reserved.new.self c.requires.open c.end_reserved.ensures
