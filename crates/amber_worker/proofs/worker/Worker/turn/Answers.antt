-- A worker does what it is told, and makes its turn.
use Rattle.std.proofs.Common.{sym, subst}
use Rattle.std.specs.Result.{IfOk}
use Rattle.amber_worker.specs.Turning.{TurnsUnder}
use Rattle.amber_worker.proofs.Told.{ends-paused, ends-result, keeps-paused, keeps-result, same-looked, turned-paused, turned-result, unsent-paused, unsent-result}
use Rattle.amber_worker.proofs.worker.Worker.turn.Goals as goal

-- it is told to pause

pub returns-in_default-clause-keeps : goal.returns-in_default-clause-keeps
returns-in_default-clause-keeps c = keeps-paused c.args.self.now c.pause.new.self c.pause.result c.pause.ensures.ok c.pause.ensures.err c.dealing_under.ensures.short

pub returns-in_default-clause-turned : goal.returns-in_default-clause-turned
returns-in_default-clause-turned c =
    subst (λ told. IfOk c.pause.result (TurnsUnder told c.args.self.now c.pause.new.self)) (sym c.in_default.ensures.pause)
    (turned-paused c.args.self.now c.pause.new.self c.pause.result c.pause.ensures.ok c.pause.ensures.err)

pub returns-in_default-clause-err : goal.returns-in_default-clause-err
returns-in_default-clause-err c = same-looked c.pause.result c.args.self.now c.pause.new.self c.pause.ensures.err

pub returns-in_default-clause-ends : goal.returns-in_default-clause-ends
returns-in_default-clause-ends c = ends-paused c.args.self.now c.pause.new.self c.pause.result c.pause.ensures.ok c.pause.ensures.err

pub returns-in_default-clause-unsent : goal.returns-in_default-clause-unsent
returns-in_default-clause-unsent c = unsent-paused c.args.self.now c.pause.new.self c.pause.result c.pause.ensures.ok c.pause.ensures.err

-- it is told something else, or nothing

pub returns-clause-keeps : goal.returns-clause-keeps
returns-clause-keeps c =
    keeps-result c.in-Some.how c.args.self.now c.make_turn.new.self c.make_turn.result c.make_turn.ensures.ok c.make_turn.ensures.err c.dealing_under.ensures.short c.in-Some.ensures.may

pub returns-clause-turned : goal.returns-clause-turned
returns-clause-turned c =
    turned-result c.in-Some.how c.args.self.now c.make_turn.new.self c.make_turn.result c.make_turn.ensures.ok c.make_turn.ensures.err c.args.control c.in-Some.ensures.is

pub returns-clause-ends : goal.returns-clause-ends
returns-clause-ends c = ends-result c.in-Some.how c.args.self.now c.make_turn.new.self c.make_turn.result c.make_turn.ensures.ok c.make_turn.ensures.err

pub returns-clause-unsent : goal.returns-clause-unsent
returns-clause-unsent c = unsent-result c.in-Some.how c.args.self.now c.make_turn.new.self c.make_turn.result c.make_turn.ensures.ok c.make_turn.ensures.err
