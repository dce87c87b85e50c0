-- The words, the job, and the log that is made for it.
use Rattle.std.proofs.Common.{◌≡◌, map, string_bytes, Err, subst, rules}
use Rattle.amber_io.specs.World.{World}
use Rattle.amber_recorder.specs.Writing.{Counted}
use Rattle.amber_session.specs.Beginning.{MakesLog}
use Rattle.amber_session.proofs.Starting.{begins-started, not-started}
use Rattle.amber_session.proofs.dialogue.Dialogue.start.Goals as goal

pub returns-in_err-job-clause-started : goal.returns-in_err-job-clause-started
returns-in_err-job-clause-started g c =
    let e : c.from_residual-in_err-job.result ≡ Err c.in_err-job.field-0.0 = search rules in
    rw e (not-started c.in_err-job.field-0.0 (map string_bytes c.args.words.now) c.in_ok-words.words (g.W.Outside.world c.args.outside.now) (g.W.Outside.world c.prepare_session.new.outside)
    c.in_ok-words.ensures.read c.in_err-job.ensures.course c.prepare_session.ensures.only)

pub returns-clause-started : goal.returns-clause-started
returns-clause-started g c =
    let after = g.W.Outside.world c.begin.new.outside in
    let course = c.in_ok-job.ensures.course in
    begins-started c.begin.result (map string_bytes c.args.words.now) c.in_ok-words.words c.in_ok-job.job (g.W.Outside.world c.args.outside.now) after
    c.in_ok-words.ensures.read course.1 (subst (λ (w : World). MakesLog c.begin.result c.in_ok-job.job w after) course.0 c.begin.ensures.begins)
    (subst (λ (w : World). Counted c.begin.result w after) course.0 c.begin.ensures.counted)
