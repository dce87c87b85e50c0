-- How far a run has come, and what it leaves that ended early.
use Rattle.std.specs.Prelude.{◌≡◌, ◌≢◌, ℕ, ◌<◌, ◌≤◌, ◌⊎◌, List, [], ◌∷◌, ◌++◌, length, map, Result, Ok, Err, false}
use Rattle.std.specs.List.{flat_map}
use Rattle.std.specs.Io.KnownBytes.{Appends, Keeps}
use Rattle.amber_io.specs.Folder.{with_file, without_file}
use Rattle.amber_io.specs.World.{World}
use Rattle.amber_log.specs.LogText.{head_text, item_text, log_text}
use Rattle.amber_log.specs.ReadAs.{IsReadAs}
use Rattle.amber_log.specs.ReadLines.{empty_log}
use Rattle.amber_log.specs.declared.command.Command.{Command}
use Rattle.amber_log.specs.declared.log.Item.{Item}
use Rattle.amber_log.specs.declared.log.Log.{Log}
use Rattle.amber_meaning.specs.InTime.{AreInTime, IsInTime}
use Rattle.amber_meaning.specs.Legal.{IsLegal, IsUnaltered}
use Rattle.amber_meaning.specs.Plain.{answer_of}
use Rattle.amber_meaning.specs.Replay.{state_after}
use Rattle.amber_meaning.specs.Texts.{answer_text}
use Rattle.amber_meaning.specs.Total.{step_total}
use Rattle.amber_meaning.specs.Transcript.{replies, reply_of, transcript_of}
use Rattle.amber_debug.specs.Session.{Session, command_of, one_more}
use Rattle.amber_leg.specs.Leg.{most_late}
use Rattle.amber_laws.specs.CountStops.{StopForCounts}
use Rattle.amber_recorder.specs.Left.{AlterNothing, ClosesAs, IsTorn, ends_long}
use Rattle.amber_run.specs.RunTask.{IsSession, RunTask, most_steps, query_at}
use Rattle.amber_course.specs.declared.failure.Failure.{Failure}
use Rattle.amber_course.specs.declared.failure.Failure.TheVariants as failure

-- ---- between two commands

-- the log of this batch size and these items
abbrev pub log_of_items : ℕ → List Item → Log
log_of_items batch_size items = record { batch = batch_size; items = items }

-- the log's file holds the text of a legal log, which begins with the items from which the run goes on and whose legs behind them stop
-- in time, all other files are as before, and the sink got the log's transcript; `left` are the commands that are still to be done
pub record IsUnderWay (t : RunTask) (left : List Command) (log : Log) (world : World) : Type 0 where
  pub batch : log.batch ≡ t.batch_size
  pub added : List Item
  pub items : log.items ≡ t.begun ++ added
  pub legal : IsLegal (query_at t log.batch) log
  pub in_time : AreInTime (query_at t log.batch) most_late (state_after (query_at t log.batch) t.begun) added
  pub commands : map command_of log.items ++ left ≡ t.commands
  pub place : world.files ≡ with_file t.before.files t.name (log_text log)
  pub sent : Appends t.before.got world.got (transcript_of (query_at t log.batch) log.items)
  pub short : ends_long false log.items ≡ false

-- a session that runs what the task asks for has come so far
pub record IsAt (t : RunTask) (left : List Command) (d : Session) (world : World) : Type 0 where
  pub session : IsSession t d
  pub way : IsUnderWay t left d.log world

-- where no item sets a constant or drops a row, the reply to the last item is the text of the sequential answer
abbrev pub HasAnswer : RunTask → Log → Type 0
HasAnswer t log =
    IsUnaltered log.items → (done : List Item) (last : Item) → log.items ≡ done ++ last ∷ []
    → reply_of (query_at t log.batch) (state_after (query_at t log.batch) done) last ≡ answer_text t.flow (answer_of t.flow t.inputs)

-- a run that has done all
pub record IsDone (t : RunTask) (world : World) : Type 0 where
  pub log : Log
  pub way : IsUnderWay t [] log world
  pub answer : HasAnswer t log
  -- its legs stop for counts exactly at their targets, and say so
  pub counts : StopForCounts (query_at t log.batch) log.items

-- ---- what a failed write leaves of the log

-- an item by which the log may grow at a command: with it the log is legal, and it stops in time
pub record IsItemFor (t : RunTask) (log : Log) (done : Command) (one : Item) : Type 0 where
  pub command : command_of one ≡ done
  pub legal : IsLegal (query_at t log.batch) (one_more log one)
  pub in_time : IsInTime (query_at t log.batch) most_late (state_after (query_at t log.batch) log.items) one

-- the file holds the log's text
pub record HasText (t : RunTask) (log : Log) (bytes : List ℕ) : Type 0 where
  pub batch : log.batch ≡ t.batch_size
  pub text : bytes ≡ log_text log

-- the file holds the log's text and after it an item for the first of the commands that are left, torn
pub record HasTornItem (t : RunTask) (left : List Command) (log : Log) (bytes : List ℕ) : Type 0 where
  pub batch : log.batch ≡ t.batch_size
  pub next : Command
  pub later : List Command
  pub commands : left ≡ next ∷ later
  pub one : Item
  pub item : IsItemFor t log next one
  pub torn : List ℕ
  pub front : IsTorn torn (item_text one)
  pub text : bytes ≡ log_text log ++ torn

-- the file holds the head, torn, which reads as the log of no item
pub record HasTornHead (t : RunTask) (log : Log) (bytes : List ℕ) : Type 0 where
  pub none : log ≡ empty_log
  pub front : IsTorn bytes (head_text t.batch_size)

-- the file holds the head and after it the items from which the run goes on, torn
pub record HasTornBegun (t : RunTask) (log : Log) (bytes : List ℕ) : Type 0 where
  pub batch : log.batch ≡ t.batch_size
  pub torn : List ℕ
  pub front : IsTorn torn (flat_map item_text t.begun)
  pub text : bytes ≡ head_text t.batch_size ++ torn

-- the last piece that was to be written into the file is torn
abbrev pub EndsTorn : RunTask → List Command → Log → List ℕ → Type 0
EndsTorn t left log bytes = HasTornItem t left log bytes ⊎ HasTornHead t log bytes

-- ---- a run that ended early

-- the items that were replied to, the last, which may not have been, and those of both that were added: to those from which the run goes
-- on, all of which were replied to, and of the others the last alone may not have been; or there are the first of these alone
abbrev pub AreKept : List Item → List Item → List Item → List Item → Type 0
AreKept begun done last added =
    ((more : List Item) × (done ≡ begun ++ more) × (added ≡ more ++ last) × (length last ≤ 1))
    ⊎ ((rest : List Item) × (done ≡ []) × (last ++ rest ≡ begun) × (added ≡ []))

-- the replies to the items from which the run goes on were not put
abbrev pub FailsAtBegun : Failure → List Item → List Item → List Item → Type 0
FailsAtBegun s begun done last = (s ≡ failure.OutFault) × (done ≡ []) × (last ≡ begun) × (begun ≢ [])

-- the log's file reads as a legal log, whose legs stop in time and whose commands are the first of those to be done, and all other
-- files are as before. The sink got the replies to all items, where that to the last may be missing, or cut if the sink failed; the items
-- from which the run goes on count as one
pub record IsLeft (t : RunTask) (s : Failure) (world : World) : Type 0 where
  -- the log: its batch size, the items that were replied to, and perhaps one more
  pub batch : ℕ
  pub done : List Item
  pub last : List Item
  -- the items behind those from which the run goes on
  pub added : List Item
  -- the commands that are in none of them
  pub left : List Command
  -- the file's bytes
  pub bytes : List ℕ
  -- what was put of the reply to the last item, and what was not
  pub part : List ℕ
  pub rest : List ℕ
  pub place : world.files ≡ with_file t.before.files t.name bytes
  pub kept : AreKept t.begun done last added
  pub read : IsReadAs bytes (log_of_items batch (done ++ last))
  -- nothing is torn, unless the log could not be written: after the reply to the last item, or at the items from which the run goes on
  pub stands : HasText t (log_of_items batch (done ++ last)) bytes
      ⊎ ((s ≡ failure.LogFault) × (last ≡ []) × EndsTorn t left (log_of_items batch (done ++ last)) bytes)
      ⊎ ((s ≡ failure.LogFault) × (done ≡ []) × HasTornBegun t (log_of_items batch (done ++ last)) bytes)
  pub legal : IsLegal (query_at t batch) (log_of_items batch (done ++ last))
  pub in_time : AreInTime (query_at t batch) most_late (state_after (query_at t batch) t.begun) added
  pub commands : map command_of (done ++ last) ++ left ≡ t.commands
  pub split : part ++ rest ≡ replies (query_at t batch) (state_after (query_at t batch) done) last
  pub whole : s ≢ failure.OutFault → part ≡ []
  pub sent : Appends t.before.got world.got (transcript_of (query_at t batch) done ++ part)
  pub closed : ClosesAs s (ends_long false (done ++ last)) ⊎ FailsAtBegun s t.begun done last

-- the log's file is as before, absent or empty, all other files are as before, and the sink got nothing
abbrev pub IsBare : RunTask → World → Type 0
IsBare t world =
    ((world.files ≡ t.before.files) ⊎ (world.files ≡ without_file t.before.files t.name) ⊎ (world.files ≡ with_file t.before.files t.name [])) × Keeps t.before.got world.got

-- what each failure of a run that was begun leaves; a script that alters nothing is too long only where its query has too many steps
abbrev pub Leaves : RunTask → Failure → World → Type 0
Leaves t failure.LogFault world = IsBare t world ⊎ IsLeft t failure.LogFault world
Leaves t failure.OutFault world = IsLeft t failure.OutFault world
Leaves t failure.Long world = IsLeft t failure.Long world × (AlterNothing t.commands → most_steps < step_total (query_at t t.batch_size))
Leaves t failure.NoMemory world = IsBare t world ⊎ IsLeft t failure.NoMemory world
Leaves t other world = ⊥

-- ---- the steps of a run

-- the log was made with its head, and nothing was put
abbrev pub Opens : {A : Type 0} → Result A Failure → RunTask → World → Type 0
Opens (Ok x) t world = (world.files ≡ with_file t.before.files t.name (head_text t.batch_size)) × (world.got ≡ t.before.got)
Opens (Err failure.LogFault) t world = IsBare t world ⊎ IsLeft t failure.LogFault world
Opens (Err failure.NoMemory) t world = IsBare t world
Opens (Err other) t world = ⊥

-- the items from which the run goes on stand in the log, and their replies were put
abbrev pub HasWrittenBegun : RunTask → World → Type 0
HasWrittenBegun t world =
    (world.files ≡ with_file t.before.files t.name (log_text (log_of_items t.batch_size t.begun)))
    × Appends t.before.got world.got (transcript_of (query_at t t.batch_size) t.begun)

-- so they do, and in the log of a session that runs what the task asks for
pub record HasTaken (t : RunTask) (d : Session) (world : World) : Type 0 where
  pub session : IsSession t d
  pub log : d.log ≡ log_of_items t.batch_size t.begun
  pub legal : IsLegal (query_at t t.batch_size) d.log
  pub outside : HasWrittenBegun t world
  pub left : List Command
  pub commands : map command_of t.begun ++ left ≡ t.commands

-- the items stand there, or that failed
abbrev pub WritesBegun : {A : Type 0} → Result A Failure → RunTask → World → Type 0
WritesBegun (Ok x) t world = HasWrittenBegun t world
WritesBegun (Err failure.LogFault) t world = IsBare t world ⊎ IsLeft t failure.LogFault world
WritesBegun (Err failure.OutFault) t world = IsLeft t failure.OutFault world
WritesBegun (Err failure.NoMemory) t world = IsBare t world ⊎ IsLeft t failure.NoMemory world
WritesBegun (Err other) t world = ⊥

-- what a failure at a command leaves
abbrev pub Halts : RunTask → World → Failure → Type 0
Halts t world failure.LogFault = IsLeft t failure.LogFault world
Halts t world failure.OutFault = IsLeft t failure.OutFault world
Halts t world failure.Long = IsLeft t failure.Long world
Halts t world failure.NoMemory = IsLeft t failure.NoMemory world
Halts t world other = ⊥

-- the run was done
abbrev pub Worked : {A : Type 0} → Result A Failure → RunTask → World → Type 0
Worked (Ok x) t world = IsDone t world
Worked (Err s) t world = Leaves t s world
