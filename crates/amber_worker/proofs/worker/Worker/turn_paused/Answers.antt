-- A worker that is told to pause.
use Rattle.amber_worker.proofs.Told.{ends-paused, keeps-paused, same-looked, turned-paused}
use Rattle.amber_worker.proofs.worker.Worker.turn_paused.Goals as goal

pub returns-clause-keeps : goal.returns-clause-keeps
returns-clause-keeps c = keeps-paused c.args.self.now c.pause.new.self c.pause.result c.pause.ensures.ok c.pause.ensures.err c.show_short.ensures

pub returns-clause-turned : goal.returns-clause-turned
returns-clause-turned c = turned-paused c.args.self.now c.pause.new.self c.pause.result c.pause.ensures.ok c.pause.ensures.err

pub returns-clause-err : goal.returns-clause-err
returns-clause-err c = same-looked c.pause.result c.args.self.now c.pause.new.self c.pause.ensures.err

pub returns-clause-ends : goal.returns-clause-ends
returns-clause-ends c = ends-paused c.args.self.now c.pause.new.self c.pause.result c.pause.ensures.ok c.pause.ensures.err
