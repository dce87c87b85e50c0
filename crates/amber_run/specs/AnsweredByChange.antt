-- What a call answers and leaves, told by what is shown before and after it and by what has changed. `Answered` names what there was
-- before an error's line; here the part of the line that was put stands as one with what was put before it.
use Rattle.std.specs.Prelude.{◌≡◌, ◌≢◌, ℕ, ◌-◌, ◌^◌, ◌<◌, ◌≤◌, ◌⊎◌, List, [], ◌∷◌, ◌++◌, length, map, Option, None, Ok, Err, false, ◌↔◌, ⊤}
use Rattle.std.specs.List.{flat_map}
use Rattle.std.specs.Io.KnownBytes.{Appends}
use Rattle.amber_io.specs.Counts.{Rose}
use Rattle.amber_io.specs.Folder.{Named, Told, with_file, without_file}
use Rattle.amber_io.specs.Sink.{Begins}
use Rattle.amber_io.specs.World.{PutsOnly, World}
use Rattle.amber_rows.specs.declared.flow.Operator.{Operator}
use Rattle.amber_log.specs.LogText.{head_text, item_text, log_text}
use Rattle.amber_log.specs.ReadAs.{IsReadAs}
use Rattle.amber_log.specs.ReadLines.{empty_log}
use Rattle.amber_log.specs.declared.command.Command.{Command}
use Rattle.amber_log.specs.declared.log.Item.{Item}
use Rattle.amber_log.specs.declared.log.Log.{Log}
use Rattle.amber_meaning.specs.InTime.{AreInTime, IsInTime}
use Rattle.amber_meaning.specs.Legal.{IsLegal, IsUnaltered, Query, query_over}
use Rattle.amber_meaning.specs.Plain.{answer_of}
use Rattle.amber_meaning.specs.Replay.{state_after}
use Rattle.amber_meaning.specs.Texts.{answer_text}
use Rattle.amber_meaning.specs.Total.{step_total}
use Rattle.amber_meaning.specs.Transcript.{replies, reply_of, transcript_of}
use Rattle.amber_course.specs.Course.{IsReached, course_of}
use Rattle.amber_course.specs.Failure.{IsToldAs, error_line_of}
use Rattle.amber_course.specs.Steps.{Names, Tells}
use Rattle.amber_course.specs.Words.{call_words_of}
use Rattle.amber_course.specs.declared.job.Job.{Job}
use Rattle.amber_course.specs.declared.job.Job.TheVariants as job
use Rattle.amber_course.specs.declared.job.RecoverJob.{RecoverJob}
use Rattle.amber_course.specs.declared.job.RunJob.{RunJob}
use Rattle.amber_course.specs.declared.status.Status.{Status}
use Rattle.amber_course.specs.declared.status.Status.TheVariants as status
use Rattle.amber_course.specs.declared.failure.Failure.{Failure}
use Rattle.amber_course.specs.declared.failure.Failure.TheVariants as failure
use Rattle.amber_debug.specs.Session.{command_of, one_more}
use Rattle.amber_leg.specs.Leg.{most_late}
use Rattle.amber_laws.specs.CountStops.{StopForCounts}
use Rattle.amber_run.specs.Answering.{replay_text}
use Rattle.amber_run.specs.RunTask.{end_alone, most_steps}
use Rattle.amber_run.specs.UnderWay.{AreKept, FailsAtBegun, log_of_items}
use Rattle.amber_recorder.specs.Left.{AlterNothing, ClosesAs, IsTorn, ends_long}
use Rattle.amber_run.specs.Outcome.{Answered, Answers, AsksFor, AsksNoRun, IsSinkStatus, MeetsLimit, Stops, TellsLong}

-- ---- what is shown, and what has changed

-- what the folder and the sink show: the files, and what the sink has got
pub record Shown : Type 0 where
  pub files : Option Named
  pub got : Option (List ℕ)

abbrev pub showing : Option Named → Option (List ℕ) → Shown
showing files got = record { files = files; got = got }

-- what a call has changed, and how many loads had failed before and have failed now
pub record Change : Type 0 where
  pub before : Shown
  pub now : Shown
  pub loads : ℕ
  pub loads_now : ℕ

abbrev pub shown_in : World → Shown
shown_in world = showing world.files world.got

-- from one to the other
abbrev pub change_between : World → World → Change
change_between old new = record { before = shown_in old; now = shown_in new; loads = old.loads; loads_now = new.loads }

-- what loads have found: the folder's files, and how many loads had failed before and have failed
pub record Loads : Type 0 where
  pub told : Option Named
  pub old : ℕ
  pub new : ℕ

abbrev pub loading : Option Named → ℕ → ℕ → Loads
loading told old new = record { told = told; old = old; new = new }

-- ---- what a run is to do

-- what is fixed once nothing is left that refuses a run
pub record TaskShown : Type 0 where
  -- the folder's files before the log is made, and what the sink has got before
  pub told : Option Named
  pub before : Option (List ℕ)
  -- the log's name
  pub name : List ℕ
  pub flow : List Operator
  -- the scans' files
  pub inputs : List (List ℕ)
  -- how many rows a batch has
  pub batch : ℕ
  -- the items of an old log from which the run goes on
  pub begun : List Item
  -- the script's commands, then the one to run to the end
  pub commands : List Command

-- what is run, in batches of this size
abbrev pub query_shown : TaskShown → ℕ → Query
query_shown t batch = query_over t.flow t.inputs batch most_steps

-- a run is to do the commands of its script, and then to go to the end
abbrev pub task_shown : Shown → RunJob → TaskShown
task_shown before run = record {
  told = before.files;
  before = before.got;
  name = run.log;
  flow = run.inputs.flow;
  inputs = run.inputs.files;
  batch = run.batch_size;
  begun = [];
  commands = run.commands ++ end_alone;
}

-- a recovery is to do the commands of its script behind those of the old log, and then to go to the end
abbrev pub recovery_shown : Shown → RecoverJob → TaskShown
recovery_shown before r = record {
  told = before.files;
  before = before.got;
  name = r.log;
  flow = r.inputs.flow;
  inputs = r.inputs.files;
  batch = r.old.batch;
  begun = r.old.items;
  commands = r.commands ++ end_alone;
}

-- ---- how far a run has come

-- the log's file holds the text of a legal log, which begins with the items from which the run goes on and whose legs behind them stop
-- in time, all other files are as before, and the sink got the log's transcript; `left` are the commands that are still to be done
pub record IsUnderWayShown (t : TaskShown) (left : List Command) (log : Log) (shown : Shown) : Type 0 where
  pub batch : log.batch ≡ t.batch
  pub added : List Item
  pub items : log.items ≡ t.begun ++ added
  pub legal : IsLegal (query_shown t log.batch) log
  pub in_time : AreInTime (query_shown t log.batch) most_late (state_after (query_shown t log.batch) t.begun) added
  pub commands : map command_of log.items ++ left ≡ t.commands
  pub place : shown.files ≡ with_file t.told t.name (log_text log)
  pub sent : Appends t.before shown.got (transcript_of (query_shown t log.batch) log.items)
  pub short : ends_long false log.items ≡ false

-- where no item sets a constant or drops a row, the reply to the last item is the text of the sequential answer
abbrev pub HasAnswerShown : TaskShown → Log → Type 0
HasAnswerShown t log =
    IsUnaltered log.items → (done : List Item) (last : Item) → log.items ≡ done ++ last ∷ []
    → reply_of (query_shown t log.batch) (state_after (query_shown t log.batch) done) last ≡ answer_text t.flow (answer_of t.flow t.inputs)

-- a run that has done all
pub record IsDoneShown (t : TaskShown) (shown : Shown) : Type 0 where
  pub log : Log
  pub way : IsUnderWayShown t [] log shown
  pub answer : HasAnswerShown t log
  -- its legs stop for counts exactly at their targets, and say so
  pub counts : StopForCounts (query_shown t log.batch) log.items

-- an item by which the log may grow at a command: with it the log is legal, and it stops in time
pub record IsItemShown (t : TaskShown) (log : Log) (done : Command) (one : Item) : Type 0 where
  pub command : command_of one ≡ done
  pub legal : IsLegal (query_shown t log.batch) (one_more log one)
  pub in_time : IsInTime (query_shown t log.batch) most_late (state_after (query_shown t log.batch) log.items) one

-- the file holds the log's text
pub record HasTextShown (t : TaskShown) (log : Log) (bytes : List ℕ) : Type 0 where
  pub batch : log.batch ≡ t.batch
  pub text : bytes ≡ log_text log

-- the file holds the log's text and after it an item for the first of the commands that are left, torn
pub record HasTornItemShown (t : TaskShown) (left : List Command) (log : Log) (bytes : List ℕ) : Type 0 where
  pub batch : log.batch ≡ t.batch
  pub next : Command
  pub later : List Command
  pub commands : left ≡ next ∷ later
  pub one : Item
  pub item : IsItemShown t log next one
  pub torn : List ℕ
  pub front : IsTorn torn (item_text one)
  pub text : bytes ≡ log_text log ++ torn

-- the file holds the head, torn, which reads as the log of no item
pub record HasTornHeadShown (t : TaskShown) (log : Log) (bytes : List ℕ) : Type 0 where
  pub none : log ≡ empty_log
  pub front : IsTorn bytes (head_text t.batch)

-- the file holds the head and after it the items from which the run goes on, torn
pub record HasTornBegunShown (t : TaskShown) (log : Log) (bytes : List ℕ) : Type 0 where
  pub batch : log.batch ≡ t.batch
  pub torn : List ℕ
  pub front : IsTorn torn (flat_map item_text t.begun)
  pub text : bytes ≡ head_text t.batch ++ torn

-- the last piece that was to be written into the file is torn
abbrev pub EndsTornShown : TaskShown → List Command → Log → List ℕ → Type 0
EndsTornShown t left log bytes = HasTornItemShown t left log bytes ⊎ HasTornHeadShown t log bytes

-- ---- a run that ended early

-- the log's file reads as a legal log, whose legs stop in time and whose commands are the first of those to be done, and all other
-- files are as before. The sink got the replies to all items, where that to the last may be missing, or cut if the sink failed, and the
-- items from which the run goes on count as one; then a line
pub record IsLeftShown (t : TaskShown) (s : Failure) (line : List ℕ) (shown : Shown) : Type 0 where
  -- the log: its batch size, the items that were replied to, and perhaps one more
  pub batch : ℕ
  pub done : List Item
  pub last : List Item
  -- the items behind those from which the run goes on
  pub added : List Item
  -- the commands that are in none of them
  pub left : List Command
  -- the file's bytes
  pub bytes : List ℕ
  -- what was put of the reply to the last item, and what was not
  pub part : List ℕ
  pub rest : List ℕ
  pub place : shown.files ≡ with_file t.told t.name bytes
  pub kept : AreKept t.begun done last added
  pub read : IsReadAs bytes (log_of_items batch (done ++ last))
  -- nothing is torn, unless the log could not be written: after the reply to the last item, or at the items from which the run goes on
  pub stands : HasTextShown t (log_of_items batch (done ++ last)) bytes
      ⊎ ((s ≡ failure.LogFault) × (last ≡ []) × EndsTornShown t left (log_of_items batch (done ++ last)) bytes)
      ⊎ ((s ≡ failure.LogFault) × (done ≡ []) × HasTornBegunShown t (log_of_items batch (done ++ last)) bytes)
  pub legal : IsLegal (query_shown t batch) (log_of_items batch (done ++ last))
  pub in_time : AreInTime (query_shown t batch) most_late (state_after (query_shown t batch) t.begun) added
  pub commands : map command_of (done ++ last) ++ left ≡ t.commands
  pub split : part ++ rest ≡ replies (query_shown t batch) (state_after (query_shown t batch) done) last
  pub whole : s ≢ failure.OutFault → part ≡ []
  pub sent : Appends t.before shown.got (transcript_of (query_shown t batch) done ++ (part ++ line))
  pub closed : ClosesAs s (ends_long false (done ++ last)) ⊎ FailsAtBegun s t.begun done last

-- the log's file is as before, absent or empty, all other files are as before, and the sink got a line alone
abbrev pub IsBareShown : TaskShown → List ℕ → Shown → Type 0
IsBareShown t line shown =
    ((shown.files ≡ t.told) ⊎ (shown.files ≡ without_file t.told t.name) ⊎ (shown.files ≡ with_file t.told t.name [])) × Appends t.before shown.got line

-- what each failure of a run that was begun leaves; a script that alters nothing is too long only where its query has too many steps
abbrev pub LeavesShown : TaskShown → Failure → List ℕ → Shown → Type 0
LeavesShown t failure.LogFault line shown = IsBareShown t line shown ⊎ IsLeftShown t failure.LogFault line shown
LeavesShown t failure.OutFault line shown = IsLeftShown t failure.OutFault line shown
LeavesShown t failure.Long line shown = IsLeftShown t failure.Long line shown × (AlterNothing t.commands → most_steps < step_total (query_shown t t.batch))
LeavesShown t failure.NoMemory line shown = IsBareShown t line shown ⊎ IsLeftShown t failure.NoMemory line shown
LeavesShown t other line shown = ⊥

-- ---- what a job leaves

-- no file has changed, and the sink got a line alone
abbrev pub IsUntouchedBy : List ℕ → Change → Type 0
IsUntouchedBy line change = (change.now.files ≡ change.before.files) × Appends change.before.got change.now.got line

-- the job is done: for `plain` no file has changed, and the sink got the text of the sequential answer
abbrev pub FulfilsBy : Job → Change → Type 0
FulfilsBy (job.Plain inputs) change = IsUntouchedBy (answer_text inputs.flow (answer_of inputs.flow inputs.files)) change
FulfilsBy (job.Run run) change = IsDoneShown (task_shown change.before run) change.now
FulfilsBy (job.Replay r) change = IsUntouchedBy (replay_text r) change
FulfilsBy (job.Recover r) change = IsDoneShown (recovery_shown change.before r) change.now

-- the job was broken off, and a line was put after it: for `plain` the sink failed, which got a front part of that text alone
abbrev pub BreaksOffBy : Job → Failure → List ℕ → Change → Type 0
BreaksOffBy (job.Plain inputs) failure.OutFault line change =
    (change.now.files ≡ change.before.files) × Begins change.before.got change.now.got (answer_text inputs.flow (answer_of inputs.flow inputs.files))
BreaksOffBy (job.Plain inputs) other line change = ⊥
BreaksOffBy (job.Run run) s line change = LeavesShown (task_shown change.before run) s line change.now
BreaksOffBy (job.Replay r) failure.OutFault line change =
    (change.now.files ≡ change.before.files) × Begins change.before.got change.now.got (replay_text r)
BreaksOffBy (job.Replay r) other line change = ⊥
BreaksOffBy (job.Recover r) s line change = LeavesShown (recovery_shown change.before r) s line change.now

-- ---- what a call leaves

-- the course has a job, and it is done
abbrev pub SucceedsBy : List (List ℕ) → Named → World → World → Type 0
SucceedsBy words files before after = (job : Job) × (course_of words files ≡ Ok job) × FulfilsBy job (change_between before after)

-- the course has a job, and it was broken off
abbrev pub BreaksBy : List (List ℕ) → Failure → List ℕ → Change → Type 0
BreaksBy words s line change = Told change.before.files (λ files. (job : Job) × (course_of words files ≡ Ok job) × BreaksOffBy job s line change)

-- a failure after the words and before the output: `meant` says that over told files it is to come, and `told` also that the files
-- are told. A file could not be read only where that is meant, or the count rose
abbrev pub StoppedBy : Failure → Loads → Type 0 → Type 0 → Type 0
StoppedBy failure.Usage loads meant told = ⊥
StoppedBy failure.LogFault loads meant told = ⊥
StoppedBy failure.OutFault loads meant told = ⊥
StoppedBy (failure.ReadFault name) loads meant told = ((loads.new ≡ loads.old) × told) ⊎ Rose loads.old loads.new
StoppedBy failure.NoMemory loads meant told = ⊤
StoppedBy other loads meant told = (loads.new ≡ loads.old) × meant

-- a failure after the words is that of the course, unless memory runs out and for reads that failed
abbrev pub IsCause : List (List ℕ) → Failure → Change → Type 0
IsCause words s change =
    StoppedBy s (loading change.before.files change.loads change.loads_now) (Told change.before.files (λ files. course_of words files ≡ Err s)) (Tells change.before.files (λ files. course_of words files ≡ Err s))

-- the query gives too many rows, and nothing was done; or a run was too long
abbrev pub StopsLongBy : List (List ℕ) → List ℕ → Change → Type 0
StopsLongBy words line change =
    (Told change.before.files (λ files. course_of words files ≡ Err failure.Long) × IsUntouchedBy line change) ⊎ BreaksBy words failure.Long line change

-- what a call that stopped leaves, with this part of the failure's line
abbrev pub StopsBy : List (List ℕ) → Failure → List ℕ → Change → Type 0
StopsBy words failure.Usage line change = (change.loads_now ≡ change.loads) × (call_words_of words ≡ None) × IsUntouchedBy line change
StopsBy words failure.LogFault line change = (change.loads_now ≡ change.loads) × BreaksBy words failure.LogFault line change
StopsBy words failure.OutFault line change = (change.loads_now ≡ change.loads) × BreaksBy words failure.OutFault line change
StopsBy words failure.Long line change = (change.loads_now ≡ change.loads) × StopsLongBy words line change
StopsBy words failure.NoMemory line change = IsUntouchedBy line change ⊎ ((change.loads_now ≡ change.loads) × BreaksBy words failure.NoMemory line change)
StopsBy words other line change = IsCause words other change × IsUntouchedBy line change

-- why a call did not end with `Ok`, and what it left; a file in the line is one that the order of work reaches, and the line is whole
-- unless the sink failed or memory ran out
pub record EndedBy (words : List (List ℕ)) (result : Status) (old new : World) : Type 0 where
  pub cause : Failure
  pub answer : IsToldAs cause result
  -- what was put of the cause's line, and what was not
  pub line : List ℕ
  pub rest : List ℕ
  pub split : line ++ rest ≡ error_line_of cause
  pub whole : result ≢ status.NoMemory → new.puts ≡ old.puts → old.puts < 2 ^ 64 - 1 → line ≡ error_line_of cause
  -- the log is blamed only where a write failed, also where memory ran out at its line
  pub wrote : cause ≡ failure.LogFault → Rose old.writes new.writes
  pub left : StopsBy words cause line (change_between old new)
  pub named : Told old.files (λ files. Names cause (IsReached words files))

-- ---- the whole of it

-- what a call of these words answers, and what it leaves
pub record AnsweredBy (words : List (List ℕ)) (result : Status) (before after : World) : Type 0 where
  -- what is done, and what is left undone
  pub ok : result ≡ status.Ok → Told before.files (λ files. SucceedsBy words files before after)
  pub ended : result ≢ status.Ok → EndedBy words result before after
  -- which status it is, over files that are told
  pub course : Told before.files (λ files. Answers (course_of words files) result before.loads after.loads)
  pub complete : Told before.files (λ files. MeetsLimit (course_of words files)
      → ¬ (Rose before.loads after.loads) → ¬ (Rose before.writes after.writes) → ¬ (Rose before.puts after.puts)
      → (result ≡ status.Ok) ⊎ (result ≡ status.NoMemory))
  pub puts_grew : Told before.files (λ files. ¬ (Rose before.loads after.loads) → ¬ (Rose before.writes after.writes)
      → before.puts < after.puts → IsSinkStatus (course_of words files) result)
  pub long : Told before.files (λ files. (job : Job) → AsksFor words files job
      → ¬ (Rose before.loads after.loads) → ¬ (Rose before.writes after.writes) → TellsLong job result before after)
  -- which status it is, over any files
  pub usage : result ≡ status.Usage → call_words_of words ≡ None
  pub bad_words : call_words_of words ≡ None → (result ≡ status.Usage) ⊎ (result ≡ status.NoMemory)
  pub read_fault : result ≡ status.ReadFault → Rose before.loads after.loads
      ⊎ Tells before.files (λ files. (name : List ℕ) × (course_of words files ≡ Err (failure.ReadFault name)))
  pub loads_grew : before.loads < after.loads → (result ≡ status.ReadFault) ⊎ (result ≡ status.NoMemory)
  pub log_fault : result ≡ status.LogFault → Rose before.writes after.writes
  pub writes_grew : before.writes < after.writes → (result ≡ status.LogFault) ⊎ (result ≡ status.NoMemory)
  pub out_fault : result ≡ status.OutFault → Rose before.puts after.puts
  pub quiet : result ≡ status.Ok → (after.loads ≡ before.loads) × (after.writes ≡ before.writes) × (after.puts ≡ before.puts)
  -- what stays where no run is asked for, nor one to be gone on with, whatever the status is
  pub same : AsksNoRun (call_words_of words) → after.files ≡ before.files
  pub writes : AsksNoRun (call_words_of words) → after.writes ≡ before.writes
  pub unlogged : AsksNoRun (call_words_of words) → result ≢ status.LogFault

-- ---- the two are one

-- this is left, and then these bytes are put, by which nothing changes but what the sink has got and the count of failed puts
abbrev pub ThenPuts : (World → Type 0) → List ℕ → World → Type 0
ThenPuts left bytes after = (world : World) × left world × Appends world.got after.got bytes × PutsOnly world after

-- what a call that stopped leaves with a part of a line is what it leaves before the line, and then that part; a sink that failed gets
-- no line
abbrev pub StopsAreOne : Type 0
StopsAreOne = (words : List (List ℕ)) (cause : Failure) (line : List ℕ) (before after : World) → (cause ≡ failure.OutFault → line ≡ [])
    → StopsBy words cause line (change_between before after) ↔ ThenPuts (Stops words cause before) line after

-- what a call answers is the same, told by what has changed or by what there is before and after
abbrev pub AnswersAreOne : Type 0
AnswersAreOne = (words : List (List ℕ)) (result : Status) (before after : World) → AnsweredBy words result before after ↔ Answered words result before after
