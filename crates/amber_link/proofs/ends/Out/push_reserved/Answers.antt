-- A row more is pushed.
use Rattle.amber_link.proofs.Carried.{adds-row}
use Rattle.amber_link.proofs.ends.Out.push_reserved.Goals as goal

pub returns-clause-adds : goal.returns-clause-adds
returns-clause-adds c = adds-row c.args.self.now.kept c.args.row c.requires.open c.push_reserved.new.self c.push_reserved.ensures
