-- The next row holds it, where it may.
use Rattle.std.proofs.Common.{sym, ◌∙◌, subst, true}
use Rattle.amber_log.specs.declared.entry.Entry.TheVariants as entry
use Rattle.amber_worker.specs.Redoing.{HasRedone, log_line}
use Rattle.amber_worker.specs.WorkerState.{WorkerState}
use Rattle.amber_worker.proofs.LinesNoted.{hold-cannot, hold-done}
use Rattle.amber_worker.proofs.worker.Worker.redo_hold.Goals as goal

pub returns-then-not-holds_again-clause-ok : goal.returns-then-not-holds_again-clause-ok
returns-then-not-holds_again-clause-ok c = hold-cannot c.args.self.now c.args.armed (sym c.holds_again.ensures ∙ c.if-not-holds_again.true)

pub returns-clause-ok : goal.returns-clause-ok
returns-clause-ok c =
    subst (λ (w : WorkerState). HasRedone (log_line entry.Hold c.args.armed) c.args.self.now (record w { restraint = record w.restraint { held = true } }))
    (sym (c.self.view_is ∙ c.in_ok-note.ensures.ok)) (hold-done c.args.self.now c.args.armed (sym c.holds_again.ensures ∙ c.if-not-holds_again.false))
