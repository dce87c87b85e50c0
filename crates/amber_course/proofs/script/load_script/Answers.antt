-- The load, and then what its bytes are read as.
use Rattle.std.proofs.Common.{◌≡◌, Err, rules}
use Rattle.amber_course.specs.Course.{load_of, most_text, script_in, script_read}
use Rattle.amber_script.specs.Script.{script_of}
use Rattle.amber_course.proofs.Following.{follows-judged, follows-on, follows-failure}
use Rattle.amber_course.proofs.script.load_script.Goals as goal

pub returns-in_err-bytes-clause-course : goal.returns-in_err-bytes-clause-course
unfolding script_in
returns-in_err-bytes-clause-course g c =
    let e : c.from_residual.result ≡ Err c.in_err-bytes.field-0.0 = search rules in
    rw e (follows-failure c.in_err-bytes.field-0.0 (load_of most_text c.args.name.now) (λ files bytes. script_read (script_of bytes c.args.flow.now))
    (g.W.Outside.world c.args.outside.now) (g.W.Outside.world c.load.new.outside) c.in_err-bytes.ensures.course)

pub returns-clause-course : goal.returns-clause-course
unfolding script_in
returns-clause-course g c =
    let after = g.W.Outside.world c.load.new.outside in
    follows-on c.read.result c.in_ok-bytes.bytes (load_of most_text c.args.name.now) (λ files bytes. script_read (script_of bytes c.args.flow.now))
    (g.W.Outside.world c.args.outside.now) after after c.in_ok-bytes.ensures.course
    (follows-judged c.read.result (script_read (script_of c.in_ok-bytes.bytes c.args.flow.now)) after c.read.ensures.commands)
