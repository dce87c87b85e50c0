-- The workflow, and then the log.
use Rattle.std.proofs.Common.{◌≡◌, Err, rules}
use Rattle.amber_course.specs.Course.{load_of, most_log, workflow_in}
use Rattle.amber_commands.specs.Course.{called, go_on, script_for, script_of_log}
use Rattle.amber_commands.specs.declared.refusal.Refusal.TheVariants as refusal
use Rattle.amber_commands.proofs.Leading.{leads-decided, leads-on, leads-stopped}
use Rattle.amber_commands.proofs.printing.load_script.Goals as goal

pub returns-in_err-flow-clause-course : goal.returns-in_err-flow-clause-course
unfolding script_for
returns-in_err-flow-clause-course g c =
    let s = c.in_err-flow.field-0.0 in
    let e : c.from_residual.result ≡ Err (refusal.Call s) = search rules in
    rw e (leads-stopped s (workflow_in c.args.workflow.now) (λ files flow. go_on (called (load_of most_log c.args.log.now files)) (script_of_log flow))
    (g.W.Outside.world c.args.outside.now) (g.W.Outside.world c.load_flow.new.outside) c.in_err-flow.ensures.course)

pub returns-in_err-bytes-clause-course : goal.returns-in_err-bytes-clause-course
unfolding script_for
returns-in_err-bytes-clause-course g c =
    let s = c.in_err-bytes.field-0.0 in
    let e : c.from_residual-in_err-bytes.result ≡ Err (refusal.Call s) = search rules in
    let mid = g.W.Outside.world c.load_flow.new.outside in
    let after = g.W.Outside.world c.load.new.outside in
    rw e (leads-on (Err (refusal.Call s)) c.in_ok-flow.flow (workflow_in c.args.workflow.now) (λ files flow. go_on (called (load_of most_log c.args.log.now files)) (script_of_log flow))
    (g.W.Outside.world c.args.outside.now) mid after c.in_ok-flow.ensures.course
    (leads-stopped s (load_of most_log c.args.log.now) (λ files bytes. script_of_log c.in_ok-flow.flow bytes) mid after c.in_err-bytes.ensures.course))

pub returns-clause-course : goal.returns-clause-course
unfolding script_for
returns-clause-course g c =
    let mid = g.W.Outside.world c.load_flow.new.outside in
    let after = g.W.Outside.world c.load.new.outside in
    leads-on c.script_of_log.result c.in_ok-flow.flow (workflow_in c.args.workflow.now) (λ files flow. go_on (called (load_of most_log c.args.log.now files)) (script_of_log flow))
    (g.W.Outside.world c.args.outside.now) mid after c.in_ok-flow.ensures.course
    (leads-on c.script_of_log.result c.in_ok-bytes.bytes (load_of most_log c.args.log.now) (λ files bytes. script_of_log c.in_ok-flow.flow bytes) mid after after c.in_ok-bytes.ensures.course
    (leads-decided c.script_of_log.result (script_of_log c.in_ok-flow.flow c.in_ok-bytes.bytes) after c.script_of_log.ensures))
