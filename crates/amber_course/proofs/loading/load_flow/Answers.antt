-- The load, and then what its bytes are read as.
use Rattle.std.proofs.Common.{◌≡◌, Err, rules}
use Rattle.amber_flow.specs.Workflow.{workflow_of}
use Rattle.amber_course.specs.Course.{flow_read, load_of, most_text, workflow_in}
use Rattle.amber_course.proofs.Following.{follows-judged, follows-on, follows-failure}
use Rattle.amber_course.proofs.loading.load_flow.Goals as goal

pub returns-in_err-bytes-clause-course : goal.returns-in_err-bytes-clause-course
unfolding workflow_in
returns-in_err-bytes-clause-course g c =
    let e : c.from_residual.result ≡ Err c.in_err-bytes.field-0.0 = search rules in
    rw e (follows-failure c.in_err-bytes.field-0.0 (load_of most_text c.args.name.now) (λ files bytes. flow_read (workflow_of bytes))
    (g.W.Outside.world c.args.outside.now) (g.W.Outside.world c.load.new.outside) c.in_err-bytes.ensures.course)

pub returns-clause-course : goal.returns-clause-course
unfolding workflow_in
returns-clause-course g c =
    let after = g.W.Outside.world c.load.new.outside in
    follows-on c.read.result c.in_ok-bytes.bytes (load_of most_text c.args.name.now) (λ files bytes. flow_read (workflow_of bytes))
    (g.W.Outside.world c.args.outside.now) after after c.in_ok-bytes.ensures.course
    (follows-judged c.read.result (flow_read (workflow_of c.in_ok-bytes.bytes)) after c.read.ensures)
