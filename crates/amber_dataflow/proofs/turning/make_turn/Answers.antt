-- A turn of a worker that is told nothing.
use Rattle.amber_dataflow.proofs.Untold.{alone-makes, alone-uncounted, alone-writes}
use Rattle.amber_dataflow.proofs.turning.make_turn.Goals as goal

pub returns-clause-makes : goal.returns-clause-makes
returns-clause-makes c = alone-makes c.turn.result c.args.worker.now c.turn.new.self c.turn.ensures.keeps c.turn.ensures.ends c.turn.ensures.turned

pub returns-clause-writes : goal.returns-clause-writes
returns-clause-writes c = alone-writes c.turn.result c.args.worker.now c.turn.new.self c.turn.ensures.turned

pub returns-clause-uncounted : goal.returns-clause-uncounted
returns-clause-uncounted c = alone-uncounted c.turn.result c.args.worker.now c.turn.new.self c.turn.ensures.turned
