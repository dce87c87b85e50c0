-- It does so, where it may.
use Rattle.std.proofs.Common.{sym, ◌∙◌, subst, false}
use Rattle.amber_log.specs.declared.entry.Entry.TheVariants as entry
use Rattle.amber_worker.specs.Redoing.{HasRedone, log_line}
use Rattle.amber_worker.specs.WorkerState.{WorkerState}
use Rattle.amber_worker.proofs.LinesNoted.{resume-cannot, resume-done}
use Rattle.amber_worker.proofs.worker.Worker.redo_resume.Goals as goal

pub returns-then-not-resumes_again-clause-ok : goal.returns-then-not-resumes_again-clause-ok
returns-then-not-resumes_again-clause-ok c = λ armed. resume-cannot c.args.self.now armed (sym c.resumes_again.ensures ∙ c.if-not-resumes_again.true)

pub returns-clause-ok : goal.returns-clause-ok
returns-clause-ok c = λ armed.
    subst (λ (w : WorkerState). HasRedone (log_line entry.Resume armed) c.args.self.now (record w { restraint = record w.restraint { paused = false } }))
    (sym (c.self.view_is ∙ c.in_ok-note.ensures.ok)) (resume-done c.args.self.now armed (sym c.resumes_again.ensures ∙ c.if-not-resumes_again.false))
