-- What the steps of a job give.
use Rattle.std.specs.Prelude.{◌≡◌, ℕ, ◌<◌, ◌≤◌, ◌⊎◌, List, ◌++◌, map, Result, Ok, Err, false, ⊤}
use Rattle.std.specs.List.{flat_map}
use Rattle.std.specs.Io.KnownBytes.{Appends, Keeps}
use Rattle.amber_io.specs.Sink.{Begins}
use Rattle.amber_io.specs.World.{World}
use Rattle.amber_rows.specs.FlowRules.{IsFlow}
use Rattle.amber_rows.specs.declared.flow.Operator.{Operator}
use Rattle.amber_log.specs.Items.{command_of}
use Rattle.amber_log.specs.LogText.{item_text}
use Rattle.amber_log.specs.declared.command.Command.{Command}
use Rattle.amber_meaning.specs.Legal.{IsLegal, query_over}
use Rattle.amber_meaning.specs.Plain.{answer_of, row_total}
use Rattle.amber_meaning.specs.Texts.{answer_text}
use Rattle.amber_meaning.specs.Transcript.{transcript_of}
use Rattle.amber_meaning.specs.declared.answer.Answer.{Answer}
use Rattle.amber_course.specs.Ready.{AreOfScript}
use Rattle.amber_course.specs.Course.{end_alone, most_rows, most_run_steps, require_limit}
use Rattle.amber_run.specs.UnderWay.{IsDone, Leaves}
use Rattle.amber_run.specs.RunTask.{recover_task_of, run_task_of}
use Rattle.amber_run.specs.declared.recover_job.TakenUp.{TakenUp}
use Rattle.amber_course.specs.declared.job.Job.{Job}
use Rattle.amber_course.specs.declared.job.Job.TheVariants as job
use Rattle.amber_course.specs.declared.job.RecoverJob.{RecoverJob}
use Rattle.amber_course.specs.declared.job.ReplayJob.{ReplayJob}
use Rattle.amber_course.specs.declared.failure.LogWhy.TheVariants as why
use Rattle.amber_course.specs.declared.failure.Reason.TheVariants as reason
use Rattle.amber_recover.specs.declared.error.RebuildErr.{RebuildErr}
use Rattle.amber_recover.specs.declared.error.RebuildErr.TheVariants as rebuild_err
use Rattle.amber_course.specs.declared.failure.Failure.{Failure}
use Rattle.amber_course.specs.declared.failure.Failure.TheVariants as failure

-- the sequential answer, or that there are too many rows
abbrev pub IsAnswer : Result Answer Failure → List Operator → List (List ℕ) → Type 0
IsAnswer (Ok answer) flow files = (row_total flow files ≤ most_rows) × (answer ≡ answer_of flow files)
IsAnswer (Err failure.Long) flow files = most_rows < row_total flow files
IsAnswer (Err failure.NoMemory) flow files = ⊤
IsAnswer (Err other) flow files = ⊥

-- the transcript that the log of a replay tells
abbrev pub replay_text : ReplayJob → List ℕ
replay_text r = transcript_of (query_over r.inputs.flow r.inputs.files r.log.batch most_run_steps) r.log.items

-- the transcript, or that the log is not legal
abbrev pub IsReplayed : Result (List ℕ) Failure → ReplayJob → Type 0
IsReplayed (Ok text) r = (require_limit (job.Replay r) ≡ Ok (job.Replay r)) × (text ≡ replay_text r)
IsReplayed (Err (failure.BadLog line why)) r = require_limit (job.Replay r) ≡ Err (failure.BadLog line why)
IsReplayed (Err failure.NoMemory) r = ⊤
IsReplayed (Err other) r = ⊥

-- the refusal of a log that cannot be done again
abbrev pub refusal_of : RebuildErr → Failure
refusal_of (rebuild_err.Header op) = failure.BadFlow op reason.Header
refusal_of (rebuild_err.Illegal line) = failure.BadLog line why.Illegal
refusal_of rebuild_err.NoMemory = failure.NoMemory

-- a run stands behind the old log of a recovery, which is legal and whose commands are the script's first
pub record HasTakenUp (r : RecoverJob) (made : TakenUp) : Type 0 where
  pub right : require_limit (job.Recover r) ≡ Ok (job.Recover r)
  pub debugger : made.debugger
      ≡ record { flow = r.inputs.flow; files = r.inputs.files; most = most_run_steps; threads = r.threads; log = r.old; spent = false }
  pub legal : IsLegal (query_over r.inputs.flow r.inputs.files r.old.batch most_run_steps) r.old
  pub text : made.done.item ≡ flat_map item_text r.old.items
  pub printed : made.done.reply ≡ transcript_of (query_over r.inputs.flow r.inputs.files r.old.batch most_run_steps) r.old.items
  pub commands : made.commands ≡ r.commands
  pub name : made.log_name ≡ r.log
  pub left : List Command
  pub first : map command_of r.old.items ++ left ≡ r.commands ++ end_alone
  pub flow : IsFlow made.debugger.flow
  pub script : AreOfScript made.debugger.flow made.commands

-- the run was taken up, or the old log is refused
abbrev pub IsTakenUp : Result TakenUp Failure → RecoverJob → Type 0
IsTakenUp (Ok made) r = HasTakenUp r made
IsTakenUp (Err (failure.BadLog line why)) r = require_limit (job.Recover r) ≡ Err (failure.BadLog line why)
IsTakenUp (Err failure.NoMemory) r = ⊤
IsTakenUp (Err other) r = ⊥

-- ---- what a job leaves

-- no file has changed, and the sink got nothing
abbrev pub IsUntouched : World → World → Type 0
IsUntouched before after = (after.files ≡ before.files) × Keeps before.got after.got

-- the job is done: for `plain` no file has changed, and the sink got the text of the sequential answer; for `replay` that of the transcript
abbrev pub Fulfils : Job → World → World → Type 0
Fulfils (job.Plain inputs) before after =
    (after.files ≡ before.files) × Appends before.got after.got (answer_text inputs.flow (answer_of inputs.flow inputs.files))
Fulfils (job.Run run) before after = IsDone (run_task_of before run) after
Fulfils (job.Replay r) before after = (after.files ≡ before.files) × Appends before.got after.got (replay_text r)
Fulfils (job.Recover r) before after = IsDone (recover_task_of before r) after

-- the job was broken off: for `plain` and `replay` the sink failed, which got a front part of that text alone
abbrev pub IsBrokenOff : Job → Failure → World → World → Type 0
IsBrokenOff (job.Plain inputs) failure.OutFault before after =
    (after.files ≡ before.files) × Begins before.got after.got (answer_text inputs.flow (answer_of inputs.flow inputs.files))
IsBrokenOff (job.Plain inputs) other before after = ⊥
IsBrokenOff (job.Run run) s before after = Leaves (run_task_of before run) s after
IsBrokenOff (job.Replay r) failure.OutFault before after = (after.files ≡ before.files) × Begins before.got after.got (replay_text r)
IsBrokenOff (job.Replay r) other before after = ⊥
IsBrokenOff (job.Recover r) s before after = Leaves (recover_task_of before r) s after

-- a job was broken off, or nothing was done: memory ran out, the query gives too many rows, or the log is not legal
abbrev pub Fails : Failure → Job → World → World → Type 0
Fails failure.LogFault done before after = (require_limit done ≡ Ok done) × IsBrokenOff done failure.LogFault before after
Fails failure.OutFault done before after = (require_limit done ≡ Ok done) × IsBrokenOff done failure.OutFault before after
Fails failure.Long done before after =
    ((require_limit done ≡ Err failure.Long) × IsUntouched before after) ⊎ ((require_limit done ≡ Ok done) × IsBrokenOff done failure.Long before after)
Fails failure.NoMemory done before after = IsUntouched before after ⊎ ((require_limit done ≡ Ok done) × IsBrokenOff done failure.NoMemory before after)
Fails (failure.BadLog line why) done before after = (require_limit done ≡ Err (failure.BadLog line why)) × IsUntouched before after
Fails other done before after = ⊥

-- a job was done, or it failed
abbrev pub Works : {A : Type 0} → Result A Failure → Job → World → World → Type 0
Works (Ok x) done before after = (require_limit done ≡ Ok done) × Fulfils done before after
Works (Err s) done before after = Fails s done before after
