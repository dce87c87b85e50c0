-- The log is made, and the run goes on.
use Rattle.std.proofs.Common.{◌≡◌, ◌++◌, Ok, Err, ap, refl, sym, subst, ◌∙◌, rules}
use Rattle.amber_course.specs.declared.job.RecoverJob.{RecoverJob}
use Rattle.amber_run.specs.RunTask.{end_alone, recover_task_of}
use Rattle.amber_run.specs.declared.recover_job.TakenUp.{TakenUp}
use Rattle.amber_run.proofs.Recovered.{begin-fails, goes-from, taken-from, works-recovered}
use Rattle.amber_run.proofs.recover_job.record_recovery.Goals as goal

pub returns-in_err-begin-clause-works : goal.returns-in_err-begin-clause-works
returns-in_err-begin-clause-works g c =
    λ r h.
    let e : c.from_residual.result ≡ Err c.in_err-begin.field-0.0 = search rules in
    let made : TakenUp = record { debugger = c.args.debugger.now; done = c.args.done.now; commands = c.args.commands.now; log_name = c.args.recorder.now.log_name.now } in
    let before = g.W.Outside.world c.args.recorder.now.outside.now in
    let now = g.W.Outside.world c.begin.new.recorder.outside.now in
    rw e (begin-fails (Unit {0}) c.in_err-begin.field-0.0 r before now h.right
    (c.in_err-begin.ensures.begins (recover_task_of before r) (rw c.log.ensures.log (goes-from r made before h)) h.printed))

pub returns-clause-works : goal.returns-clause-works
returns-clause-works g c =
    λ r h.
    let made : TakenUp = record { debugger = c.args.debugger.now; done = c.args.done.now; commands = c.args.commands.now; log_name = c.args.recorder.now.log_name.now } in
    let before = g.W.Outside.world c.args.recorder.now.outside.now in
    let mid = g.W.Outside.world c.begin.new.recorder.outside.now in
    let now = g.W.Outside.world c.go_on.new.recorder.outside.now in
    let t = recover_task_of before r in
    let begun = c.in_ok-begin.ensures.begins t (rw c.log.ensures.log (goes-from r made before h)) h.printed in
    works-recovered c.go_on.result r before now h.right
    (c.go_on.ensures.worked t (sym h.name ∙ sym c.begin.ensures.same_log) (ap (λ commands. commands ++ end_alone) (sym h.commands)) (taken-from r made before mid h begun))
