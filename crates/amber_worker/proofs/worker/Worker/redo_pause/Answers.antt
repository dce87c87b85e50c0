-- It does so, where it may.
use Rattle.std.proofs.Common.{sym, ◌∙◌, subst, true}
use Rattle.amber_log.specs.declared.entry.Entry.TheVariants as entry
use Rattle.amber_worker.specs.Redoing.{HasRedone, log_line}
use Rattle.amber_worker.specs.WorkerState.{WorkerState}
use Rattle.amber_worker.proofs.LinesNoted.{pause-cannot, pause-done}
use Rattle.amber_worker.proofs.worker.Worker.redo_pause.Goals as goal

pub returns-then-not-pauses_again-clause-ok : goal.returns-then-not-pauses_again-clause-ok
returns-then-not-pauses_again-clause-ok c = λ armed. pause-cannot c.args.self.now armed (sym c.pauses_again.ensures ∙ c.if-not-pauses_again.true)

pub returns-clause-ok : goal.returns-clause-ok
returns-clause-ok c = λ armed.
    subst (λ (w : WorkerState). HasRedone (log_line entry.Pause armed) c.args.self.now (record w { restraint = record w.restraint { paused = true } }))
    (sym (c.self.view_is ∙ c.in_ok-note.ensures.ok)) (pause-done c.args.self.now armed (sym c.pauses_again.ensures ∙ c.if-not-pauses_again.false))
