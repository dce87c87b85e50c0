-- Room that was made changes nothing of what is carried.
use Rattle.amber_link.proofs.Carried.{adds-roomy}
use Rattle.amber_link.proofs.ends.Out.push.Goals as goal

pub returns-clause-ok : goal.returns-clause-ok
returns-clause-ok c = adds-roomy c.args.self.now.kept c.reserve.new.self.kept c.push_reserved-2.new.self.kept c.args.row c.reserve.ensures.only c.push_reserved-2.ensures.adds
