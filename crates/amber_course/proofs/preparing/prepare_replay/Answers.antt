-- The workflow, the files of the scans, then the log.
use Rattle.std.proofs.Common.{◌≡◌, Ok, Err, inl, inr, refl, ◌∙◌, rules}
use Rattle.amber_course.specs.Course.{IsLoaded, IsScanFile, loaded_for, job_of, log_in, run_flow, then_on}
use Rattle.amber_course.specs.Steps.{Names}
use Rattle.amber_course.specs.declared.job.Job.TheVariants as job
use Rattle.amber_course.specs.declared.words.Words.TheVariants as form
use Rattle.amber_course.proofs.Following.{follows-failure, follows-last, follows-on, names-map, told-all, told-both}
use Rattle.amber_course.proofs.preparing.prepare_replay.Goals as goal

pub returns-in_err-flow-clause-course : goal.returns-in_err-flow-clause-course
unfolding job_of
returns-in_err-flow-clause-course g c =
    let workflow : c.get.result.now ≡ c.args.words.workflow = search rules in
    let log : c.get-2.result.now ≡ c.args.words.log = search rules in
    let e : c.from_residual.result ≡ Err c.in_err-flow.field-0.0 = search rules in
    rw e (follows-failure c.in_err-flow.field-0.0 (run_flow c.args.words.workflow c.args.words.log)
    (λ files flow. then_on (loaded_for flow files) (λ inputs. then_on (log_in c.args.words.log files) (λ log. Ok (job.Replay (record { inputs = inputs; log = log })))))
    (g.W.Outside.world c.args.outside.now) (g.W.Outside.world c.load_run_flow.new.outside) (rw (workflow, log) at c.in_err-flow.ensures.course))

pub returns-in_err-inputs-clause-course : goal.returns-in_err-inputs-clause-course
unfolding job_of
returns-in_err-inputs-clause-course g c =
    let workflow : c.get.result.now ≡ c.args.words.workflow = search rules in
    let log : c.get-2.result.now ≡ c.args.words.log = search rules in
    let e : c.from_residual-in_err-inputs.result ≡ Err c.in_err-inputs.field-0.0 = search rules in
    let mid = g.W.Outside.world c.load_run_flow.new.outside in
    let after = g.W.Outside.world c.load_scans.new.outside in
    rw e (follows-on (Err c.in_err-inputs.field-0.0) c.in_ok-flow.flow (run_flow c.args.words.workflow c.args.words.log)
    (λ files flow. then_on (loaded_for flow files) (λ inputs. then_on (log_in c.args.words.log files) (λ log. Ok (job.Replay (record { inputs = inputs; log = log })))))
    (g.W.Outside.world c.args.outside.now) mid after (rw (workflow, log) at c.in_ok-flow.ensures.course)
    (follows-failure c.in_err-inputs.field-0.0 (loaded_for c.in_ok-flow.flow)
    (λ files inputs. then_on (log_in c.args.words.log files) (λ log. Ok (job.Replay (record { inputs = inputs; log = log }))))
    mid after c.in_err-inputs.ensures.course))

pub returns-in_err-log-clause-course : goal.returns-in_err-log-clause-course
unfolding job_of
returns-in_err-log-clause-course g c =
    let workflow : c.get.result.now ≡ c.args.words.workflow = search rules in
    let log : c.get-2.result.now ≡ c.args.words.log = search rules in
    let again : c.get-3.result.now ≡ c.args.words.log = search rules in
    let e : c.from_residual-in_err-log.result ≡ Err c.in_err-log.field-0.0 = search rules in
    let flow-in = g.W.Outside.world c.load_run_flow.new.outside in
    let scans-in = g.W.Outside.world c.load_scans.new.outside in
    let after = g.W.Outside.world c.load_log.new.outside in
    rw e (follows-on (Err c.in_err-log.field-0.0) c.in_ok-flow.flow (run_flow c.args.words.workflow c.args.words.log)
    (λ files flow. then_on (loaded_for flow files) (λ inputs. then_on (log_in c.args.words.log files) (λ log. Ok (job.Replay (record { inputs = inputs; log = log })))))
    (g.W.Outside.world c.args.outside.now) flow-in after (rw (workflow, log) at c.in_ok-flow.ensures.course)
    (follows-on (Err c.in_err-log.field-0.0) c.in_ok-inputs.inputs (loaded_for c.in_ok-flow.flow)
    (λ files inputs. then_on (log_in c.args.words.log files) (λ log. Ok (job.Replay (record { inputs = inputs; log = log }))))
    flow-in scans-in after c.in_ok-inputs.ensures.course
    (follows-failure c.in_err-log.field-0.0 (log_in c.args.words.log) (λ files log. Ok (job.Replay (record { inputs = c.in_ok-inputs.inputs; log = log })))
    scans-in after (rw again at c.in_err-log.ensures.course))))

pub returns-clause-course : goal.returns-clause-course
unfolding job_of
returns-clause-course g c =
    let workflow : c.get.result.now ≡ c.args.words.workflow = search rules in
    let log : c.get-2.result.now ≡ c.args.words.log = search rules in
    let again : c.get-3.result.now ≡ c.args.words.log = search rules in
    let flow-in = g.W.Outside.world c.load_run_flow.new.outside in
    let scans-in = g.W.Outside.world c.load_scans.new.outside in
    let after = g.W.Outside.world c.load_log.new.outside in
    let made = Ok (job.Replay (record { inputs = c.in_ok-inputs.inputs; log = c.in_ok-log.log })) in
    follows-on made c.in_ok-flow.flow (run_flow c.args.words.workflow c.args.words.log)
    (λ files flow. then_on (loaded_for flow files) (λ inputs. then_on (log_in c.args.words.log files) (λ log. Ok (job.Replay (record { inputs = inputs; log = log })))))
    (g.W.Outside.world c.args.outside.now) flow-in after (rw (workflow, log) at c.in_ok-flow.ensures.course)
    (follows-on made c.in_ok-inputs.inputs (loaded_for c.in_ok-flow.flow)
    (λ files inputs. then_on (log_in c.args.words.log files) (λ log. Ok (job.Replay (record { inputs = inputs; log = log }))))
    flow-in scans-in after c.in_ok-inputs.ensures.course
    (follows-last c.in_ok-log.log (log_in c.args.words.log) (λ log. job.Replay (record { inputs = c.in_ok-inputs.inputs; log = log }))
    scans-in after (rw again at c.in_ok-log.ensures.course)))

pub returns-in_err-flow-clause-named : goal.returns-in_err-flow-clause-named
returns-in_err-flow-clause-named g c =
    let workflow : c.get.result.now ≡ c.args.words.workflow = search rules in
    let e : c.from_residual.result ≡ Err c.in_err-flow.field-0.0 = search rules in
    rw e (told-all (g.W.Outside.world c.args.outside.now).files (λ files. Names c.in_err-flow.field-0.0 (IsLoaded (form.Replay c.args.words) files))
    (λ files. names-map c.in_err-flow.field-0.0 (λ file. file ≡ c.get.result.now) (IsLoaded (form.Replay c.args.words) files) (λ file is. inl (is ∙ workflow)) c.in_err-flow.ensures.named))

pub returns-in_err-inputs-clause-named : goal.returns-in_err-inputs-clause-named
returns-in_err-inputs-clause-named g c =
    let workflow : c.get.result.now ≡ c.args.words.workflow = search rules in
    let log : c.get-2.result.now ≡ c.args.words.log = search rules in
    let e : c.from_residual-in_err-inputs.result ≡ Err c.in_err-inputs.field-0.0 = search rules in
    let flow-ok = rw (workflow, log) at c.in_ok-flow.ensures.course in
    let names = rw c.in_ok-flow.ensures.course.0 at c.in_err-inputs.ensures.named in
    rw e (told-both (g.W.Outside.world c.args.outside.now).files (λ files. run_flow c.args.words.workflow c.args.words.log files ≡ Ok c.in_ok-flow.flow)
    (λ files. Names c.in_err-inputs.field-0.0 (IsScanFile c.in_ok-flow.flow files))
    (λ files. Names c.in_err-inputs.field-0.0 (IsLoaded (form.Replay c.args.words) files))
    (λ files is_flow one. names-map c.in_err-inputs.field-0.0 (IsScanFile c.in_ok-flow.flow files) (IsLoaded (form.Replay c.args.words) files)
    (λ file is. inr (c.in_ok-flow.flow, is_flow, inl is)) one) flow-ok.1 names)

pub returns-in_err-log-clause-named : goal.returns-in_err-log-clause-named
returns-in_err-log-clause-named g c =
    let workflow : c.get.result.now ≡ c.args.words.workflow = search rules in
    let log : c.get-2.result.now ≡ c.args.words.log = search rules in
    let again : c.get-3.result.now ≡ c.args.words.log = search rules in
    let e : c.from_residual-in_err-log.result ≡ Err c.in_err-log.field-0.0 = search rules in
    let flow-ok = rw (workflow, log) at c.in_ok-flow.ensures.course in
    let scans-ok = rw c.in_ok-flow.ensures.course.0 at c.in_ok-inputs.ensures.course in
    rw e (told-both (g.W.Outside.world c.args.outside.now).files (λ files. run_flow c.args.words.workflow c.args.words.log files ≡ Ok c.in_ok-flow.flow)
    (λ files. loaded_for c.in_ok-flow.flow files ≡ Ok c.in_ok-inputs.inputs)
    (λ files. Names c.in_err-log.field-0.0 (IsLoaded (form.Replay c.args.words) files))
    (λ files is_flow said. names-map c.in_err-log.field-0.0 (λ file. file ≡ c.get-3.result.now) (IsLoaded (form.Replay c.args.words) files)
    (λ file is. inr (c.in_ok-flow.flow, is_flow, inr (rw said refl, is ∙ again))) c.in_err-log.ensures.named) flow-ok.1 scans-ok.1)
