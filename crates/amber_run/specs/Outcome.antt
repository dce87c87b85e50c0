-- What the status of a call says, and what the call leaves.
use Rattle.std.specs.Prelude.{◌≡◌, ◌≢◌, ℕ, ◌-◌, ◌^◌, ◌<◌, ◌≤◌, ◌⊎◌, List, ◌++◌, Option, None, Some, Result, Ok, Err, IsSome, true, false, ◌↔◌, ⊤}
use Rattle.std.specs.Io.KnownBytes.{Appends}
use Rattle.std.specs.Result.{IfErr}
use Rattle.amber_io.specs.Counts.{Rose}
use Rattle.amber_io.specs.Folder.{Named, Told, with_file}
use Rattle.amber_io.specs.World.{PutsOnly, World}
use Rattle.amber_log.specs.ReadAs.{IsReadAs}
use Rattle.amber_log.specs.declared.log.Log.{Log}
use Rattle.amber_log.specs.declared.command.Command.{Command}
use Rattle.amber_meaning.specs.Legal.{Query, query_over}
use Rattle.amber_meaning.specs.Plain.{row_total}
use Rattle.amber_meaning.specs.Total.{step_total}
use Rattle.amber_run.specs.Answering.{IsBrokenOff, Fulfils, IsUntouched}
use Rattle.amber_course.specs.Course.{IsReached, course_of, job_of, most_rows, require_limit}
use Rattle.amber_run.specs.RunTask.{most_steps}
use Rattle.amber_recorder.specs.Left.{AlterNothing, ends_long}
use Rattle.amber_course.specs.Words.{call_words_of}
use Rattle.amber_course.specs.declared.job.Job.{Job}
use Rattle.amber_course.specs.declared.job.Job.TheVariants as job
use Rattle.amber_course.specs.Steps.{Names, Stopped, Tells}
use Rattle.amber_course.specs.Failure.{IsToldAs, error_line_of, status_of}
use Rattle.amber_course.specs.declared.status.Status.{Status}
use Rattle.amber_course.specs.declared.status.Status.TheVariants as status
use Rattle.amber_course.specs.declared.failure.Failure.{Failure}
use Rattle.amber_course.specs.declared.failure.Failure.TheVariants as failure
use Rattle.amber_course.specs.declared.words.Words.{Words}
use Rattle.amber_course.specs.declared.words.Words.TheVariants as form

-- ---- the status

-- the statuses of an answer that is printed at once: the sink may fail, and memory may run out
abbrev pub IsPrintStatus : Status → Type 0
IsPrintStatus status.Ok = ⊤
IsPrintStatus status.OutFault = ⊤
IsPrintStatus status.NoMemory = ⊤
IsPrintStatus other = ⊥

-- the statuses of a run: the log may also fail, and the steps may be too many
abbrev pub IsRunStatus : Status → Type 0
IsRunStatus status.Ok = ⊤
IsRunStatus status.LogFault = ⊤
IsRunStatus status.OutFault = ⊤
IsRunStatus status.Long = ⊤
IsRunStatus status.NoMemory = ⊤
IsRunStatus other = ⊥

-- the statuses that are left where the course has a job
abbrev pub IsJobStatus : Job → Status → Type 0
IsJobStatus (job.Plain inputs) result = IsPrintStatus result
IsJobStatus (job.Run run) result = IsRunStatus result
IsJobStatus (job.Replay r) result = IsPrintStatus result
IsJobStatus (job.Recover r) result = IsRunStatus result

-- the course decides the status, unless memory runs out and for reads that failed, which raise the count of failed loads
abbrev pub Answers : Result Job Failure → Status → ℕ → ℕ → Type 0
Answers (Ok job) result old new = IsJobStatus job result ⊎ ((result ≡ status.ReadFault) × Rose old new)
Answers (Err s) result old new = (result ≡ status_of s) ⊎ (result ≡ status.NoMemory) ⊎ ((result ≡ status.ReadFault) × Rose old new)

-- a script alters nothing, and its query has so many steps at most as a run may make
abbrev pub MeetsSteps : List Command → Query → Type 0
MeetsSteps commands query = AlterNothing commands × (step_total query ≤ most_steps)

-- the course has a job, which meets the limit on its steps
abbrev pub MeetsLimit : Result Job Failure → Type 0
MeetsLimit (Ok (job.Plain inputs)) = ⊤
MeetsLimit (Ok (job.Run run)) = MeetsSteps run.commands (query_over run.inputs.flow run.inputs.files run.batch_size most_steps)
MeetsLimit (Ok (job.Replay r)) = ⊤
MeetsLimit (Ok (job.Recover r)) = MeetsSteps r.commands (query_over r.inputs.flow r.inputs.files r.old.batch most_steps)
MeetsLimit (Err s) = ⊥

-- the statuses where the course has a job and only the sink has failed
abbrev pub IsSinkStatus : Result Job Failure → Status → Type 0
IsSinkStatus (Ok (job.Plain inputs)) result = (result ≡ status.OutFault) ⊎ (result ≡ status.NoMemory)
IsSinkStatus (Ok (job.Run run)) result = (result ≡ status.OutFault) ⊎ (result ≡ status.Long) ⊎ (result ≡ status.NoMemory)
IsSinkStatus (Ok (job.Replay r)) result = (result ≡ status.OutFault) ⊎ (result ≡ status.NoMemory)
IsSinkStatus (Ok (job.Recover r)) result = (result ≡ status.OutFault) ⊎ (result ≡ status.Long) ⊎ (result ≡ status.NoMemory)
IsSinkStatus (Err s) result = ⊤

-- the words ask for no run and for none to be gone on with
abbrev pub AsksNoRun : Option Words → Type 0
AsksNoRun None = ⊤
AsksNoRun (Some (form.Plain workflow)) = ⊤
AsksNoRun (Some (form.Run words)) = ⊥
AsksNoRun (Some (form.Replay words)) = ⊤
AsksNoRun (Some (form.Recover words)) = ⊥

-- the words ask for this job, and all that is loaded for it is there and right
abbrev pub AsksFor : List (List ℕ) → Named → Job → Type 0
AsksFor words files job = (read : Words) × (call_words_of words ≡ Some read) × (job_of read files ≡ Ok job)

-- ---- `Long`

-- a file reads as this log, and all others are as before
abbrev pub HoldsLog : Option Named → Option Named → List ℕ → Log → Type 0
HoldsLog told now name log = (bytes : List ℕ) × (now ≡ with_file told name bytes) × IsReadAs bytes log

-- the status is `Long` where this holds, and only there, unless memory runs out
abbrev pub IsLongWhere : Status → Type 0 → Type 0
IsLongWhere result P = (result ≡ status.NoMemory) ⊎ ((result ≡ status.Long) ↔ P)

-- LOG reads as a log, and the status is `Long` where the last leg of it closes with `long`, and only there
abbrev pub RunsLong : Status → World → World → List ℕ → Type 0
RunsLong result before after name =
    (result ≡ status.NoMemory) ⊎ ((log : Log) × HoldsLog before.files after.files name log × ((result ≡ status.Long) ↔ (ends_long false log.items ≡ true)))

-- the same, but that the sink may have failed where the last leg closes with `long`: the old log may end so
abbrev pub RecoversLong : Status → World → World → List ℕ → Type 0
RecoversLong result before after name =
    (result ≡ status.NoMemory)
    ⊎ ((log : Log) × HoldsLog before.files after.files name log × (result ≡ status.Long → ends_long false log.items ≡ true)
    × (ends_long false log.items ≡ true → (result ≡ status.Long) ⊎ ((result ≡ status.OutFault) × Rose before.puts after.puts)))

-- when a job is too long: `plain` where the operators give more rows than they may, a run where its log says so, a recovery too if its old
-- log is not refused, a replay never
abbrev pub TellsLong : Job → Status → World → World → Type 0
TellsLong (job.Plain inputs) result before after = IsLongWhere result (most_rows < row_total inputs.flow inputs.files)
TellsLong (job.Run run) result before after = RunsLong result before after run.log
TellsLong (job.Replay r) result before after = result ≢ status.Long
TellsLong (job.Recover r) result before after = require_limit (job.Recover r) ≡ Ok (job.Recover r) → RecoversLong result before after r.log

-- ---- what a call leaves

-- the course has a job, and it is done
abbrev pub Succeeds : List (List ℕ) → Named → World → World → Type 0
Succeeds words files before after = (job : Job) × (course_of words files ≡ Ok job) × Fulfils job before after

-- the course has a job, and it was broken off
abbrev pub Breaks : List (List ℕ) → Failure → World → World → Type 0
Breaks words s before after = Told before.files (λ files. (job : Job) × (course_of words files ≡ Ok job) × IsBrokenOff job s before after)

-- the query gives too many rows, and nothing was done; or a run was too long
abbrev pub StopsLong : List (List ℕ) → World → World → Type 0
StopsLong words before after =
    (Told before.files (λ files. course_of words files ≡ Err failure.Long) × IsUntouched before after) ⊎ Breaks words failure.Long before after

-- what a call that stopped leaves, before the failure's line
abbrev pub Stops : List (List ℕ) → Failure → World → World → Type 0
Stops words failure.Usage before after = (after.loads ≡ before.loads) × (call_words_of words ≡ None) × IsUntouched before after
Stops words failure.LogFault before after = (after.loads ≡ before.loads) × Breaks words failure.LogFault before after
Stops words failure.OutFault before after = (after.loads ≡ before.loads) × Breaks words failure.OutFault before after
Stops words failure.Long before after = (after.loads ≡ before.loads) × StopsLong words before after
Stops words failure.NoMemory before after = IsUntouched before after ⊎ ((after.loads ≡ before.loads) × Breaks words failure.NoMemory before after)
Stops words other before after = Stopped other (λ files. course_of words files ≡ Err other) before after × IsUntouched before after

-- why a call did not end with `Ok`, and what it left, and then the cause's line: a file in it is one that the order of work reaches,
-- and it is whole unless the sink failed or memory ran out
pub record Ended (words : List (List ℕ)) (result : Status) (before after : World) : Type 0 where
  pub cause : Failure
  pub answer : IsToldAs cause result
  pub named : Told before.files (λ files. Names cause (IsReached words files))
  -- what there was before the line
  pub world : World
  pub left : Stops words cause before world
  -- what was put of the line, and what was not
  pub line : List ℕ
  pub rest : List ℕ
  pub split : line ++ rest ≡ error_line_of cause
  pub whole : result ≢ status.NoMemory → after.puts ≡ before.puts → before.puts < 2 ^ 64 - 1 → line ≡ error_line_of cause
  -- the log is blamed only where a write failed, also where memory ran out at its line
  pub wrote : cause ≡ failure.LogFault → Rose before.writes after.writes
  pub put : Appends world.got after.got line
  pub only : PutsOnly world after

-- ---- the whole of it

-- what a call of these words answers, and what it leaves
pub record Answered (words : List (List ℕ)) (result : Status) (before after : World) : Type 0 where
  -- what is done, and what is left undone
  pub ok : result ≡ status.Ok → Told before.files (λ files. Succeeds words files before after)
  pub ended : result ≢ status.Ok → Ended words result before after
  -- which status it is, over files that are told
  pub course : Told before.files (λ files. Answers (course_of words files) result before.loads after.loads)
  pub complete : Told before.files (λ files. MeetsLimit (course_of words files)
      → ¬ (Rose before.loads after.loads) → ¬ (Rose before.writes after.writes) → ¬ (Rose before.puts after.puts)
      → (result ≡ status.Ok) ⊎ (result ≡ status.NoMemory))
  pub puts_grew : Told before.files (λ files. ¬ (Rose before.loads after.loads) → ¬ (Rose before.writes after.writes)
      → before.puts < after.puts → IsSinkStatus (course_of words files) result)
  pub long : Told before.files (λ files. (job : Job) → AsksFor words files job
      → ¬ (Rose before.loads after.loads) → ¬ (Rose before.writes after.writes) → TellsLong job result before after)
  -- which status it is, over any files
  pub usage : result ≡ status.Usage → call_words_of words ≡ None
  pub bad_words : call_words_of words ≡ None → (result ≡ status.Usage) ⊎ (result ≡ status.NoMemory)
  pub read_fault : result ≡ status.ReadFault → Rose before.loads after.loads
      ⊎ Tells before.files (λ files. (name : List ℕ) × (course_of words files ≡ Err (failure.ReadFault name)))
  pub loads_grew : before.loads < after.loads → (result ≡ status.ReadFault) ⊎ (result ≡ status.NoMemory)
  pub log_fault : result ≡ status.LogFault → Rose before.writes after.writes
  pub writes_grew : before.writes < after.writes → (result ≡ status.LogFault) ⊎ (result ≡ status.NoMemory)
  pub out_fault : result ≡ status.OutFault → Rose before.puts after.puts
  pub quiet : result ≡ status.Ok → (after.loads ≡ before.loads) × (after.writes ≡ before.writes) × (after.puts ≡ before.puts)
  -- what stays where no run is asked for, nor one to be gone on with, whatever the status is
  pub same : AsksNoRun (call_words_of words) → after.files ≡ before.files
  pub writes : AsksNoRun (call_words_of words) → after.writes ≡ before.writes
  pub unlogged : AsksNoRun (call_words_of words) → result ≢ status.LogFault

-- ---- the steps of a call

-- a call before its error line
abbrev pub Runs : {A : Type 0} → Result A Failure → List (List ℕ) → World → World → Type 0
Runs (Ok x) words before after = (after.loads ≡ before.loads) × Told before.files (λ files. Succeeds words files before after)
Runs (Err s) words before after = Stops words s before after

-- the words are refused where they ask for nothing, and only there
abbrev pub MissesWords : Failure → List (List ℕ) → Type 0
MissesWords failure.Usage words = call_words_of words ≡ None
MissesWords other words = IsSome (call_words_of words)

abbrev pub Worded : {A : Type 0} → Result A Failure → List (List ℕ) → Type 0
Worded (Ok x) words = IsSome (call_words_of words)
Worded (Err s) words = MissesWords s words

-- no file was written: none has changed, no write has failed, and the log is not blamed
abbrev pub WroteNothing : {A : Type 0} → Result A Failure → World → World → Type 0
WroteNothing result before after = (after.files ≡ before.files) × (after.writes ≡ before.writes) × IfErr result (λ s. s ≢ failure.LogFault)
