-- The workflow, then the files of its scans.
use Rattle.std.proofs.Common.{◌≡◌, Ok, Err, rules}
use Rattle.amber_course.specs.Course.{loaded_for, run_flow, then_on}
use Rattle.amber_course.specs.SessionCourse.{session_of, session_with}
use Rattle.amber_course.proofs.Following.{follows-failure, follows-last, follows-on}
use Rattle.amber_course.proofs.session.prepare_session.Goals as goal

pub returns-in_err-flow-clause-course : goal.returns-in_err-flow-clause-course
unfolding session_of
returns-in_err-flow-clause-course g c =
    let workflow : c.get.result.now ≡ c.args.words.workflow = search rules in
    let log : c.get-2.result.now ≡ c.args.words.log = search rules in
    let e : c.from_residual.result ≡ Err c.in_err-flow.field-0.0 = search rules in
    rw e (follows-failure c.in_err-flow.field-0.0 (run_flow c.args.words.workflow c.args.words.log)
    (λ files flow. then_on (loaded_for flow files) (λ inputs. Ok (session_with c.args.words inputs)))
    (g.W.Outside.world c.args.outside.now) (g.W.Outside.world c.load_run_flow.new.outside) (rw (workflow, log) at c.in_err-flow.ensures.course))

pub returns-in_err-inputs-clause-course : goal.returns-in_err-inputs-clause-course
unfolding session_of
returns-in_err-inputs-clause-course g c =
    let workflow : c.get.result.now ≡ c.args.words.workflow = search rules in
    let log : c.get-2.result.now ≡ c.args.words.log = search rules in
    let e : c.from_residual-in_err-inputs.result ≡ Err c.in_err-inputs.field-0.0 = search rules in
    let mid = g.W.Outside.world c.load_run_flow.new.outside in
    let after = g.W.Outside.world c.load_scans.new.outside in
    rw e (follows-on (Err c.in_err-inputs.field-0.0) c.in_ok-flow.flow (run_flow c.args.words.workflow c.args.words.log)
    (λ files flow. then_on (loaded_for flow files) (λ inputs. Ok (session_with c.args.words inputs)))
    (g.W.Outside.world c.args.outside.now) mid after (rw (workflow, log) at c.in_ok-flow.ensures.course)
    (follows-failure c.in_err-inputs.field-0.0 (loaded_for c.in_ok-flow.flow) (λ files inputs. Ok (session_with c.args.words inputs))
    mid after c.in_err-inputs.ensures.course))

pub returns-clause-course : goal.returns-clause-course
unfolding session_of
returns-clause-course g c =
    let workflow : c.get.result.now ≡ c.args.words.workflow = search rules in
    let log : c.get-2.result.now ≡ c.args.words.log = search rules in
    let mid = g.W.Outside.world c.load_run_flow.new.outside in
    let after = g.W.Outside.world c.load_scans.new.outside in
    follows-on (Ok (session_with c.args.words c.in_ok-inputs.inputs)) c.in_ok-flow.flow (run_flow c.args.words.workflow c.args.words.log)
    (λ files flow. then_on (loaded_for flow files) (λ inputs. Ok (session_with c.args.words inputs)))
    (g.W.Outside.world c.args.outside.now) mid after (rw (workflow, log) at c.in_ok-flow.ensures.course)
    (follows-last c.in_ok-inputs.inputs (loaded_for c.in_ok-flow.flow) (λ inputs. session_with c.args.words inputs) mid after c.in_ok-inputs.ensures.course)
