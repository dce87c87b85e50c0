-- The workflow, the script, the files of the scans, then the old log.
use Rattle.std.proofs.Common.{◌≡◌, Ok, Err, inl, inr, refl, ◌∙◌, rules}
use Rattle.amber_course.specs.Course.{IsLoaded, IsScanFile, loaded_for, job_of, log_in, recover_of, run_flow, script_in, then_on}
use Rattle.amber_course.specs.Steps.{Names}
use Rattle.amber_course.specs.declared.job.Job.TheVariants as job
use Rattle.amber_course.specs.declared.words.Words.TheVariants as form
use Rattle.amber_course.proofs.Following.{follows-failure, follows-last, follows-on, names-map, told-all, told-map, told-three}
use Rattle.amber_course.proofs.preparing.prepare_recover.Goals as goal

pub returns-in_err-flow-clause-course : goal.returns-in_err-flow-clause-course
unfolding job_of
returns-in_err-flow-clause-course g c =
    let workflow : c.get.result.now ≡ c.args.words.workflow = search rules in
    let log : c.get-2.result.now ≡ c.args.words.log = search rules in
    let e : c.from_residual.result ≡ Err c.in_err-flow.field-0.0 = search rules in
    rw e (follows-failure c.in_err-flow.field-0.0 (run_flow c.args.words.workflow c.args.words.log)
    (λ files flow. then_on (script_in c.args.words.script flow files) (λ commands. then_on (loaded_for flow files) (λ inputs. then_on (log_in c.args.words.old_log files) (λ old. Ok (job.Recover (recover_of c.args.words commands inputs old))))))
    (g.W.Outside.world c.args.outside.now) (g.W.Outside.world c.load_run_flow.new.outside) (rw (workflow, log) at c.in_err-flow.ensures.course))

pub returns-in_err-commands-clause-course : goal.returns-in_err-commands-clause-course
unfolding job_of
returns-in_err-commands-clause-course g c =
    let workflow : c.get.result.now ≡ c.args.words.workflow = search rules in
    let log : c.get-2.result.now ≡ c.args.words.log = search rules in
    let script : c.get-3.result.now ≡ c.args.words.script = search rules in
    let e : c.from_residual-in_err-commands.result ≡ Err c.in_err-commands.field-0.0 = search rules in
    let flow-in = g.W.Outside.world c.load_run_flow.new.outside in
    let after = g.W.Outside.world c.load_script.new.outside in
    rw e (follows-on (Err c.in_err-commands.field-0.0) c.in_ok-flow.flow (run_flow c.args.words.workflow c.args.words.log)
    (λ files flow. then_on (script_in c.args.words.script flow files) (λ commands. then_on (loaded_for flow files) (λ inputs. then_on (log_in c.args.words.old_log files) (λ old. Ok (job.Recover (recover_of c.args.words commands inputs old))))))
    (g.W.Outside.world c.args.outside.now) flow-in after (rw (workflow, log) at c.in_ok-flow.ensures.course)
    (follows-failure c.in_err-commands.field-0.0 (script_in c.args.words.script c.in_ok-flow.flow)
    (λ files commands. then_on (loaded_for c.in_ok-flow.flow files) (λ inputs. then_on (log_in c.args.words.old_log files) (λ old. Ok (job.Recover (recover_of c.args.words commands inputs old)))))
    flow-in after (rw script at c.in_err-commands.ensures.course)))

pub returns-in_err-inputs-clause-course : goal.returns-in_err-inputs-clause-course
unfolding job_of
returns-in_err-inputs-clause-course g c =
    let workflow : c.get.result.now ≡ c.args.words.workflow = search rules in
    let log : c.get-2.result.now ≡ c.args.words.log = search rules in
    let script : c.get-3.result.now ≡ c.args.words.script = search rules in
    let e : c.from_residual-in_err-inputs.result ≡ Err c.in_err-inputs.field-0.0 = search rules in
    let flow-in = g.W.Outside.world c.load_run_flow.new.outside in
    let script-in = g.W.Outside.world c.load_script.new.outside in
    let after = g.W.Outside.world c.load_scans.new.outside in
    rw e (follows-on (Err c.in_err-inputs.field-0.0) c.in_ok-flow.flow (run_flow c.args.words.workflow c.args.words.log)
    (λ files flow. then_on (script_in c.args.words.script flow files) (λ commands. then_on (loaded_for flow files) (λ inputs. then_on (log_in c.args.words.old_log files) (λ old. Ok (job.Recover (recover_of c.args.words commands inputs old))))))
    (g.W.Outside.world c.args.outside.now) flow-in after (rw (workflow, log) at c.in_ok-flow.ensures.course)
    (follows-on (Err c.in_err-inputs.field-0.0) c.in_ok-commands.commands (script_in c.args.words.script c.in_ok-flow.flow)
    (λ files commands. then_on (loaded_for c.in_ok-flow.flow files) (λ inputs. then_on (log_in c.args.words.old_log files) (λ old. Ok (job.Recover (recover_of c.args.words commands inputs old)))))
    flow-in script-in after (rw script at c.in_ok-commands.ensures.course)
    (follows-failure c.in_err-inputs.field-0.0 (loaded_for c.in_ok-flow.flow)
    (λ files inputs. then_on (log_in c.args.words.old_log files) (λ old. Ok (job.Recover (recover_of c.args.words c.in_ok-commands.commands inputs old))))
    script-in after c.in_err-inputs.ensures.course)))

pub returns-in_err-old-clause-course : goal.returns-in_err-old-clause-course
unfolding job_of
returns-in_err-old-clause-course g c =
    let workflow : c.get.result.now ≡ c.args.words.workflow = search rules in
    let log : c.get-2.result.now ≡ c.args.words.log = search rules in
    let script : c.get-3.result.now ≡ c.args.words.script = search rules in
    let old : c.get-4.result.now ≡ c.args.words.old_log = search rules in
    let e : c.from_residual-in_err-old.result ≡ Err c.in_err-old.field-0.0 = search rules in
    let flow-in = g.W.Outside.world c.load_run_flow.new.outside in
    let script-in = g.W.Outside.world c.load_script.new.outside in
    let scans-in = g.W.Outside.world c.load_scans.new.outside in
    let after = g.W.Outside.world c.load_log.new.outside in
    rw e (follows-on (Err c.in_err-old.field-0.0) c.in_ok-flow.flow (run_flow c.args.words.workflow c.args.words.log)
    (λ files flow. then_on (script_in c.args.words.script flow files) (λ commands. then_on (loaded_for flow files) (λ inputs. then_on (log_in c.args.words.old_log files) (λ old. Ok (job.Recover (recover_of c.args.words commands inputs old))))))
    (g.W.Outside.world c.args.outside.now) flow-in after (rw (workflow, log) at c.in_ok-flow.ensures.course)
    (follows-on (Err c.in_err-old.field-0.0) c.in_ok-commands.commands (script_in c.args.words.script c.in_ok-flow.flow)
    (λ files commands. then_on (loaded_for c.in_ok-flow.flow files) (λ inputs. then_on (log_in c.args.words.old_log files) (λ old. Ok (job.Recover (recover_of c.args.words commands inputs old)))))
    flow-in script-in after (rw script at c.in_ok-commands.ensures.course)
    (follows-on (Err c.in_err-old.field-0.0) c.in_ok-inputs.inputs (loaded_for c.in_ok-flow.flow)
    (λ files inputs. then_on (log_in c.args.words.old_log files) (λ old. Ok (job.Recover (recover_of c.args.words c.in_ok-commands.commands inputs old))))
    script-in scans-in after c.in_ok-inputs.ensures.course
    (follows-failure c.in_err-old.field-0.0 (log_in c.args.words.old_log)
    (λ files old. Ok (job.Recover (recover_of c.args.words c.in_ok-commands.commands c.in_ok-inputs.inputs old)))
    scans-in after (rw old at c.in_err-old.ensures.course)))))

pub returns-clause-course : goal.returns-clause-course
unfolding job_of
returns-clause-course g c =
    let workflow : c.get.result.now ≡ c.args.words.workflow = search rules in
    let log : c.get-2.result.now ≡ c.args.words.log = search rules in
    let script : c.get-3.result.now ≡ c.args.words.script = search rules in
    let old : c.get-4.result.now ≡ c.args.words.old_log = search rules in
    let flow-in = g.W.Outside.world c.load_run_flow.new.outside in
    let script-in = g.W.Outside.world c.load_script.new.outside in
    let scans-in = g.W.Outside.world c.load_scans.new.outside in
    let after = g.W.Outside.world c.load_log.new.outside in
    let made = Ok (job.Recover (recover_of c.args.words c.in_ok-commands.commands c.in_ok-inputs.inputs c.in_ok-old.old)) in
    follows-on made c.in_ok-flow.flow (run_flow c.args.words.workflow c.args.words.log)
    (λ files flow. then_on (script_in c.args.words.script flow files) (λ commands. then_on (loaded_for flow files) (λ inputs. then_on (log_in c.args.words.old_log files) (λ old. Ok (job.Recover (recover_of c.args.words commands inputs old))))))
    (g.W.Outside.world c.args.outside.now) flow-in after (rw (workflow, log) at c.in_ok-flow.ensures.course)
    (follows-on made c.in_ok-commands.commands (script_in c.args.words.script c.in_ok-flow.flow)
    (λ files commands. then_on (loaded_for c.in_ok-flow.flow files) (λ inputs. then_on (log_in c.args.words.old_log files) (λ old. Ok (job.Recover (recover_of c.args.words commands inputs old)))))
    flow-in script-in after (rw script at c.in_ok-commands.ensures.course)
    (follows-on made c.in_ok-inputs.inputs (loaded_for c.in_ok-flow.flow)
    (λ files inputs. then_on (log_in c.args.words.old_log files) (λ old. Ok (job.Recover (recover_of c.args.words c.in_ok-commands.commands inputs old))))
    script-in scans-in after c.in_ok-inputs.ensures.course
    (follows-last c.in_ok-old.old (log_in c.args.words.old_log) (λ old. job.Recover (recover_of c.args.words c.in_ok-commands.commands c.in_ok-inputs.inputs old))
    scans-in after (rw old at c.in_ok-old.ensures.course))))

pub returns-in_err-flow-clause-named : goal.returns-in_err-flow-clause-named
returns-in_err-flow-clause-named g c =
    let workflow : c.get.result.now ≡ c.args.words.workflow = search rules in
    let e : c.from_residual.result ≡ Err c.in_err-flow.field-0.0 = search rules in
    rw e (told-all (g.W.Outside.world c.args.outside.now).files (λ files. Names c.in_err-flow.field-0.0 (IsLoaded (form.Recover c.args.words) files))
    (λ files. names-map c.in_err-flow.field-0.0 (λ file. file ≡ c.get.result.now) (IsLoaded (form.Recover c.args.words) files) (λ file is. inl (is ∙ workflow)) c.in_err-flow.ensures.named))

pub returns-in_err-commands-clause-named : goal.returns-in_err-commands-clause-named
returns-in_err-commands-clause-named g c =
    let workflow : c.get.result.now ≡ c.args.words.workflow = search rules in
    let log : c.get-2.result.now ≡ c.args.words.log = search rules in
    let script : c.get-3.result.now ≡ c.args.words.script = search rules in
    let e : c.from_residual-in_err-commands.result ≡ Err c.in_err-commands.field-0.0 = search rules in
    let flow-ok = rw (workflow, log) at c.in_ok-flow.ensures.course in
    rw e (told-map (g.W.Outside.world c.args.outside.now).files (λ files. run_flow c.args.words.workflow c.args.words.log files ≡ Ok c.in_ok-flow.flow)
    (λ files. Names c.in_err-commands.field-0.0 (IsLoaded (form.Recover c.args.words) files))
    (λ files is_flow. names-map c.in_err-commands.field-0.0 (λ file. file ≡ c.get-3.result.now) (IsLoaded (form.Recover c.args.words) files)
    (λ file is. inr (c.in_ok-flow.flow, is_flow, inl (is ∙ script))) c.in_err-commands.ensures.named) flow-ok.1)

pub returns-in_err-inputs-clause-named : goal.returns-in_err-inputs-clause-named
returns-in_err-inputs-clause-named g c =
    let workflow : c.get.result.now ≡ c.args.words.workflow = search rules in
    let log : c.get-2.result.now ≡ c.args.words.log = search rules in
    let script : c.get-3.result.now ≡ c.args.words.script = search rules in
    let e : c.from_residual-in_err-inputs.result ≡ Err c.in_err-inputs.field-0.0 = search rules in
    let flow-ok = rw (workflow, log) at c.in_ok-flow.ensures.course in
    let script-ok = rw (script, c.in_ok-flow.ensures.course.0) at c.in_ok-commands.ensures.course in
    let names = rw (c.in_ok-commands.ensures.course.0, c.in_ok-flow.ensures.course.0) at c.in_err-inputs.ensures.named in
    rw e (told-three (g.W.Outside.world c.args.outside.now).files (λ files. run_flow c.args.words.workflow c.args.words.log files ≡ Ok c.in_ok-flow.flow)
    (λ files. script_in c.args.words.script c.in_ok-flow.flow files ≡ Ok c.in_ok-commands.commands) (λ files. Names c.in_err-inputs.field-0.0 (IsScanFile c.in_ok-flow.flow files))
    (λ files. Names c.in_err-inputs.field-0.0 (IsLoaded (form.Recover c.args.words) files))
    (λ files is_flow said one. names-map c.in_err-inputs.field-0.0 (IsScanFile c.in_ok-flow.flow files) (IsLoaded (form.Recover c.args.words) files)
    (λ file is. inr (c.in_ok-flow.flow, is_flow, inr (rw said refl, inl is))) one) flow-ok.1 script-ok.1 names)

pub returns-in_err-old-clause-named : goal.returns-in_err-old-clause-named
returns-in_err-old-clause-named g c =
    let workflow : c.get.result.now ≡ c.args.words.workflow = search rules in
    let log : c.get-2.result.now ≡ c.args.words.log = search rules in
    let script : c.get-3.result.now ≡ c.args.words.script = search rules in
    let old : c.get-4.result.now ≡ c.args.words.old_log = search rules in
    let e : c.from_residual-in_err-old.result ≡ Err c.in_err-old.field-0.0 = search rules in
    let flow-ok = rw (workflow, log) at c.in_ok-flow.ensures.course in
    let script-ok = rw (script, c.in_ok-flow.ensures.course.0) at c.in_ok-commands.ensures.course in
    let scans-ok = rw (c.in_ok-commands.ensures.course.0, c.in_ok-flow.ensures.course.0) at c.in_ok-inputs.ensures.course in
    rw e (told-three (g.W.Outside.world c.args.outside.now).files (λ files. run_flow c.args.words.workflow c.args.words.log files ≡ Ok c.in_ok-flow.flow)
    (λ files. script_in c.args.words.script c.in_ok-flow.flow files ≡ Ok c.in_ok-commands.commands) (λ files. loaded_for c.in_ok-flow.flow files ≡ Ok c.in_ok-inputs.inputs)
    (λ files. Names c.in_err-old.field-0.0 (IsLoaded (form.Recover c.args.words) files))
    (λ files is_flow said loaded. names-map c.in_err-old.field-0.0 (λ file. file ≡ c.get-4.result.now) (IsLoaded (form.Recover c.args.words) files)
    (λ file is. inr (c.in_ok-flow.flow, is_flow, inr (rw said refl, inr (rw loaded refl, is ∙ old)))) c.in_err-old.ensures.named) flow-ok.1 script-ok.1 scans-ok.1)
