-- A link of workers that stand somewhere may be settled.
use Rattle.amber_dataflow.proofs.Passed.{can-pass}
use Rattle.amber_dataflow.proofs.settling.pass_on.Goals as goal

pub pass_between-requires : goal.pass_between-requires
pass_between-requires c = can-pass c.args.crew.now c.args.from c.args.to c.requires.crew c.requires.there c.requires.sends
