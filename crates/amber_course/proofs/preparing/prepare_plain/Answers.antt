-- The workflow, then the files of its scans.
use Rattle.std.proofs.Common.{◌≡◌, Ok, Err, inl, inr, rules}
use Rattle.amber_course.specs.Course.{IsLoaded, IsScanned, loaded_for, job_of, then_on, workflow_in}
use Rattle.amber_course.specs.declared.job.Job.TheVariants as job
use Rattle.amber_course.specs.declared.words.Words.TheVariants as form
use Rattle.amber_course.proofs.Following.{follows-failure, follows-last, follows-on, names-map, scan-named, told-all, told-map}
use Rattle.amber_course.specs.Steps.{Names}
use Rattle.amber_course.proofs.preparing.prepare_plain.Goals as goal

pub returns-in_err-flow-clause-course : goal.returns-in_err-flow-clause-course
unfolding job_of
returns-in_err-flow-clause-course g c =
    let e : c.from_residual.result ≡ Err c.in_err-flow.field-0.0 = search rules in
    rw e (follows-failure c.in_err-flow.field-0.0 (workflow_in c.args.workflow.now) (λ files flow. then_on (loaded_for flow files) (λ inputs. Ok (job.Plain inputs)))
    (g.W.Outside.world c.args.outside.now) (g.W.Outside.world c.load_flow.new.outside) c.in_err-flow.ensures.course)

pub returns-in_err-inputs-clause-course : goal.returns-in_err-inputs-clause-course
unfolding job_of
returns-in_err-inputs-clause-course g c =
    let e : c.from_residual-in_err-inputs.result ≡ Err c.in_err-inputs.field-0.0 = search rules in
    let mid = g.W.Outside.world c.load_flow.new.outside in
    let after = g.W.Outside.world c.load_scans.new.outside in
    rw e (follows-on (Err c.in_err-inputs.field-0.0) c.in_ok-flow.flow (workflow_in c.args.workflow.now) (λ files flow. then_on (loaded_for flow files) (λ inputs. Ok (job.Plain inputs)))
    (g.W.Outside.world c.args.outside.now) mid after c.in_ok-flow.ensures.course
    (follows-failure c.in_err-inputs.field-0.0 (loaded_for c.in_ok-flow.flow) (λ files inputs. Ok (job.Plain inputs)) mid after c.in_err-inputs.ensures.course))

pub returns-clause-course : goal.returns-clause-course
unfolding job_of
returns-clause-course g c =
    let mid = g.W.Outside.world c.load_flow.new.outside in
    let after = g.W.Outside.world c.load_scans.new.outside in
    follows-on (Ok (job.Plain c.in_ok-inputs.inputs)) c.in_ok-flow.flow (workflow_in c.args.workflow.now) (λ files flow. then_on (loaded_for flow files) (λ inputs. Ok (job.Plain inputs)))
    (g.W.Outside.world c.args.outside.now) mid after c.in_ok-flow.ensures.course
    (follows-last c.in_ok-inputs.inputs (loaded_for c.in_ok-flow.flow) (λ inputs. job.Plain inputs) mid after c.in_ok-inputs.ensures.course)

pub returns-in_err-flow-clause-named : goal.returns-in_err-flow-clause-named
returns-in_err-flow-clause-named g c =
    let e : c.from_residual.result ≡ Err c.in_err-flow.field-0.0 = search rules in
    rw e (told-all (g.W.Outside.world c.args.outside.now).files (λ files. Names c.in_err-flow.field-0.0 (IsLoaded (form.Plain c.args.workflow.now) files))
    (λ files. names-map c.in_err-flow.field-0.0 (λ file. file ≡ c.args.workflow.now) (IsLoaded (form.Plain c.args.workflow.now) files) (λ file is. inl is) c.in_err-flow.ensures.named))

pub returns-in_err-inputs-clause-named : goal.returns-in_err-inputs-clause-named
returns-in_err-inputs-clause-named g c =
    let e : c.from_residual-in_err-inputs.result ≡ Err c.in_err-inputs.field-0.0 = search rules in
    let told = (g.W.Outside.world c.args.outside.now).files in
    let names = rw c.in_ok-flow.ensures.course.0 at c.in_err-inputs.ensures.named in
    rw e (told-map told (λ files. Names c.in_err-inputs.field-0.0 (IsScanned c.args.workflow.now files))
    (λ files. Names c.in_err-inputs.field-0.0 (IsLoaded (form.Plain c.args.workflow.now) files))
    (λ files. names-map c.in_err-inputs.field-0.0 (IsScanned c.args.workflow.now files) (IsLoaded (form.Plain c.args.workflow.now) files) (λ file is. inr is))
    (scan-named c.in_err-inputs.field-0.0 told c.args.workflow.now c.in_ok-flow.flow c.in_ok-flow.ensures.course.1 names))
