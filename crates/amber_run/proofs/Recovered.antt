-- A run that was taken up, from its old log to what it leaves.
use Rattle.std.proofs.Common.{◌≡◌, ℕ, inr, List, ◌++◌, map, None, Some, Option, Result, Ok, Err, refl, sym, ap, subst, ◌∙◌}
use Rattle.amber_io.specs.World.{World}
use Rattle.amber_log.specs.Items.{command_of}
use Rattle.amber_log.specs.declared.log.Log.{Log}
use Rattle.amber_meaning.specs.Legal.{IsLegal}
use Rattle.amber_meaning.specs.Plain.{wrong_header}
use Rattle.amber_course.specs.Course.{end_alone, goes_on_or, illegal_line_in, replayed_by, require_limit, strange_line_in}
use Rattle.amber_course.specs.declared.failure.Failure.{Failure}
use Rattle.amber_course.specs.declared.failure.Failure.TheVariants as failure
use Rattle.amber_course.specs.declared.job.Job.TheVariants as job
use Rattle.amber_course.specs.declared.job.RecoverJob.{RecoverJob}
use Rattle.amber_debug.specs.Session.{Session}
use Rattle.amber_recover.specs.Recovering.{Recovers}
use Rattle.amber_recover.specs.declared.error.RebuildErr.{RebuildErr}
use Rattle.amber_recover.specs.declared.error.RebuildErr.TheVariants as rebuild_err
use Rattle.amber_run.specs.Answering.{Fails, HasTakenUp, IsTakenUp, Works, refusal_of}
use Rattle.amber_run.specs.RunTask.{GoesOnFrom, RunTask, most_steps, query_at, recover_task_of}
use Rattle.amber_run.specs.UnderWay.{WritesBegun, HasWrittenBegun, HasTaken, Leaves, Worked, log_of_items}
use Rattle.amber_run.specs.declared.recover_job.TakenUp.{TakenUp}

-- ---- an old log that is refused

pub untaken : (A : Type 0) (e : RebuildErr) (r : RecoverJob) → wrong_header 1 r.inputs.files r.inputs.flow ≡ None
    → Recovers {A = A} (Err e) (record { flow = r.inputs.flow; files = r.inputs.files; most = most_steps; log = r.old }) → IsTakenUp (Err (refusal_of e)) r
untaken A (rebuild_err.Header op) r headed h = absurd (let two : ◌≡◌ {A = Option ℕ} None (Some op) = sym headed ∙ h in cc)
untaken A (rebuild_err.Illegal line) r headed h = ap (λ bad. goes_on_or r bad (strange_line_in r)) h.1
untaken A rebuild_err.NoMemory r headed h = tt

pub strange-taken : (r : RecoverJob) (line : ℕ) → illegal_line_in (replayed_by r) ≡ None → strange_line_in r ≡ Some line
    → require_limit (job.Recover r) ≡ goes_on_or r None (Some line)
strange-taken r line legal strange = rw (legal, strange) refl

pub right-taken : (r : RecoverJob) → illegal_line_in (replayed_by r) ≡ None → strange_line_in r ≡ None → require_limit (job.Recover r) ≡ Ok (job.Recover r)
right-taken r legal none = rw (legal, none) refl

-- ---- a run that goes on

-- the session's log is the old one
log-taken : (r : RecoverJob) (made : TakenUp) → HasTakenUp r made → made.debugger.log ≡ r.old
log-taken r made h = ap (λ (d : Session). d.log) h.debugger

pub goes-from : (r : RecoverJob) (made : TakenUp) (before : World) → HasTakenUp r made → GoesOnFrom (recover_task_of before r) made.debugger.log made.log_name before
goes-from r made before h =
    let log = log-taken r made h in
    record {
      before = refl;
      name = sym h.name;
      batch = ap (λ (l : Log). l.batch) (sym log);
      begun = ap (λ (l : Log). l.items) (sym log);
      legal = subst (λ l. IsLegal (query_at (recover_task_of before r) r.old.batch) l) (sym log) h.legal;
      left = h.left;
      commands = h.first;
    }

pub taken-from : (r : RecoverJob) (made : TakenUp) (before now : World) → HasTakenUp r made → HasWrittenBegun (recover_task_of before r) now → HasTaken (recover_task_of before r) made.debugger now
taken-from r made before now h begun =
    let log = log-taken r made h in
    record {
      session = record { flow = ap (λ (d : Session). d.flow) h.debugger; inputs = ap (λ (d : Session). d.files) h.debugger; most = ap (λ (d : Session). d.most) h.debugger };
      log = log;
      legal = subst (λ l. IsLegal (query_at (recover_task_of before r) r.old.batch) l) (sym log) h.legal;
      outside = begun;
      left = h.left;
      commands = h.first;
    }

-- the items could not be written, or their replies put
pub begin-fails : (A : Type 0) (f : Failure) (r : RecoverJob) (before now : World) → require_limit (job.Recover r) ≡ Ok (job.Recover r)
    → WritesBegun {A = Unit {0}} (Err f) (recover_task_of before r) now → Works {A = A} (Err f) (job.Recover r) before now
begin-fails A failure.LogFault r before now right h = (right, h)
begin-fails A failure.OutFault r before now right h = (right, h)
begin-fails A failure.NoMemory r before now right h = inr (right, h)
begin-fails A other r before now right h = absurd h

-- whatever became of the commands behind
pub works-recovered : {A : Type 0} (result : Result A Failure) (r : RecoverJob) (before now : World) → require_limit (job.Recover r) ≡ Ok (job.Recover r)
    → Worked result (recover_task_of before r) now → Works result (job.Recover r) before now
works-recovered (Ok x) r before now right h = (right, h)
works-recovered (Err failure.LogFault) r before now right h = (right, h)
works-recovered (Err failure.OutFault) r before now right h = (right, h)
works-recovered (Err failure.Long) r before now right h = inr (right, h)
works-recovered (Err failure.NoMemory) r before now right h = inr (right, h)
works-recovered (Err other) r before now right h = absurd h
