-- A worker that is told nothing.
use Rattle.std.proofs.Common.{None, refl}
use Rattle.amber_worker.specs.declared.counting.Dealing.TheVariants as dealing
use Rattle.amber_worker.proofs.Told.{ends-result, keeps-result, turned-result}
use Rattle.amber_worker.proofs.worker.Worker.turn_untold.Goals as goal

pub returns-clause-keeps : goal.returns-clause-keeps
returns-clause-keeps c = keeps-result dealing.Nothing c.args.self.now c.make_turn.new.self c.make_turn.result c.make_turn.ensures.ok c.make_turn.ensures.err c.show_short.ensures tt

pub returns-clause-turned : goal.returns-clause-turned
returns-clause-turned c = turned-result dealing.Nothing c.args.self.now c.make_turn.new.self c.make_turn.result c.make_turn.ensures.ok c.make_turn.ensures.err None refl

pub returns-clause-ends : goal.returns-clause-ends
returns-clause-ends c = ends-result dealing.Nothing c.args.self.now c.make_turn.new.self c.make_turn.result c.make_turn.ensures.ok c.make_turn.ensures.err
