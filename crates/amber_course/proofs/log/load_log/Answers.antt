-- The load, and then what its bytes are read as.
use Rattle.std.proofs.Common.{◌≡◌, Err, rules}
use Rattle.amber_log.specs.ReadAs.{read_of}
use Rattle.amber_course.specs.Course.{load_of, log_in, log_or_line, most_log}
use Rattle.amber_course.proofs.Following.{follows-judged, follows-on, follows-failure}
use Rattle.amber_course.proofs.log.load_log.Goals as goal

pub returns-in_err-bytes-clause-course : goal.returns-in_err-bytes-clause-course
unfolding log_in
returns-in_err-bytes-clause-course g c =
    let e : c.from_residual.result ≡ Err c.in_err-bytes.field-0.0 = search rules in
    rw e (follows-failure c.in_err-bytes.field-0.0 (load_of most_log c.args.name.now) (λ files bytes. log_or_line (read_of bytes))
    (g.W.Outside.world c.args.outside.now) (g.W.Outside.world c.load.new.outside) c.in_err-bytes.ensures.course)

pub returns-clause-course : goal.returns-clause-course
unfolding log_in
returns-clause-course g c =
    let after = g.W.Outside.world c.load.new.outside in
    follows-on c.log_of.result c.in_ok-bytes.bytes (load_of most_log c.args.name.now) (λ files bytes. log_or_line (read_of bytes))
    (g.W.Outside.world c.args.outside.now) after after c.in_ok-bytes.ensures.course
    (follows-judged c.log_of.result (log_or_line (read_of c.in_ok-bytes.bytes)) after c.log_of.ensures.read)
