-- The words, the job, and what was done of it.
use Rattle.std.proofs.Common.{◌≡◌, map, string_bytes, Err, subst, rules}
use Rattle.amber_run.specs.Answering.{Works}
use Rattle.amber_recorder.specs.Writing.{Counted}
use Rattle.amber_run.proofs.Ending.{reached-works, run-failure, run-works}
use Rattle.amber_run.proofs.call.do_call.Goals as goal

pub returns-in_err-job-clause-ran : goal.returns-in_err-job-clause-ran
returns-in_err-job-clause-ran g c =
    let e : c.from_residual-in_err-job.result ≡ Err c.in_err-job.field-0.0 = search rules in
    rw e (run-failure c.in_err-job.field-0.0 (map string_bytes c.args.words.now) c.in_ok-words.words (g.W.Outside.world c.args.outside.now) (g.W.Outside.world c.prepare.new.outside)
    c.in_ok-words.ensures.read c.in_err-job.ensures.course c.prepare.ensures.only)

pub returns-clause-ran : goal.returns-clause-ran
returns-clause-ran g c =
    let after = g.W.Outside.world c.do_job.new.outside in
    let course = c.in_ok-job.ensures.course in
    run-works c.do_job.result (map string_bytes c.args.words.now) c.in_ok-words.words c.in_ok-job.job (g.W.Outside.world c.args.outside.now) after
    c.in_ok-words.ensures.read course.1 (subst (λ w. Works c.do_job.result c.in_ok-job.job w after) course.0 c.do_job.ensures.works)
    (subst (λ w. Counted c.do_job.result w after) course.0 c.do_job.ensures.counted)

pub returns-clause-named : goal.returns-clause-named
returns-clause-named g c =
    reached-works c.do_job.result (map string_bytes c.args.words.now) (g.W.Outside.world c.args.outside.now).files c.in_ok-job.job (g.W.Outside.world c.prepare.new.outside)
    (g.W.Outside.world c.do_job.new.outside) c.do_job.ensures.works
