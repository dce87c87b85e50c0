-- It finishes, where it may.
use Rattle.std.proofs.Common.{sym, ◌∙◌, subst}
use Rattle.amber_worker.specs.Steps.{Finishes}
use Rattle.amber_worker.proofs.LinesFinish.{finish-cannot, finish-done}
use Rattle.amber_worker.proofs.worker.Worker.redo_finish.Goals as goal

pub returns-then-not-finishes_again-clause-ok : goal.returns-then-not-finishes_again-clause-ok
returns-then-not-finishes_again-clause-ok c = λ armed. finish-cannot c.args.self.now armed (sym c.finishes_again.ensures ∙ c.if-not-finishes_again.true)

pub returns-clause-ok : goal.returns-clause-ok
returns-clause-ok c = λ armed.
    let done = c.in_ok-finish.ensures.ok in
    finish-done c.args.self.now c.finish.new.self armed (sym c.finishes_again.ensures ∙ c.if-not-finishes_again.false) c.show_short.ensures
    (subst (λ w. Finishes w c.finish.new.self) done.deals done.finishes)
