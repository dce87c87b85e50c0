-- The workflow, and then its scans' files.
use Rattle.std.proofs.Common.{◌≡◌, Err, rules}
use Rattle.amber_course.specs.Course.{apart_from, log_scan, run_flow, workflow_in}
use Rattle.amber_course.proofs.Following.{follows-judged, follows-on, follows-failure}
use Rattle.amber_course.proofs.log_name.load_run_flow.Goals as goal

pub returns-in_err-flow-clause-course : goal.returns-in_err-flow-clause-course
unfolding run_flow
returns-in_err-flow-clause-course g c =
    let e : c.from_residual.result ≡ Err c.in_err-flow.field-0.0 = search rules in
    rw e (follows-failure c.in_err-flow.field-0.0 (workflow_in c.args.workflow.now) (λ files flow. apart_from flow (log_scan 1 c.args.log.now flow))
    (g.W.Outside.world c.args.outside.now) (g.W.Outside.world c.load_flow.new.outside) c.in_err-flow.ensures.course)

pub returns-clause-course : goal.returns-clause-course
unfolding run_flow
returns-clause-course g c =
    let after = g.W.Outside.world c.load_flow.new.outside in
    follows-on c.apart_from.result c.in_ok-flow.flow (workflow_in c.args.workflow.now) (λ files flow. apart_from flow (log_scan 1 c.args.log.now flow))
    (g.W.Outside.world c.args.outside.now) after after c.in_ok-flow.ensures.course
    (follows-judged c.apart_from.result (apart_from c.in_ok-flow.flow (log_scan 1 c.args.log.now c.in_ok-flow.flow)) after c.apart_from.ensures.flow)
