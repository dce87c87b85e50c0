-- A session whose lines come from a source: what its steps do, and what the whole of it leaves.
use Rattle.std.specs.Prelude.{◌≡◌, ◌≢◌, ℕ, ◌≤◌, ◌<◌, ◌⊎◌, List, [], ◌++◌, length, Option, Some, Bool, true, false, if◌then◌else◌, Result, Ok, Err, IfSome, IsSome, Vec, ⊤}
use Rattle.std.specs.Io.KnownBytes.{Consumes, IsAtEnd, Keeps}
use Rattle.std.specs.declared.alloc.Global.{Global}
use Rattle.amber_io.specs.Counts.{Rose}
use Rattle.amber_io.specs.Folder.{Told}
use Rattle.amber_io.specs.Source.{TakesNext}
use Rattle.amber_io.specs.World.{PutsOnly, World}
use Rattle.amber_course.specs.Failure.{IsToldAs}
use Rattle.amber_course.specs.SessionCourse.{failure_of_input, session_course_of, session_words_of}
use Rattle.amber_course.specs.Steps.{Names}
use Rattle.amber_course.specs.Told.{Refuses}
use Rattle.amber_course.specs.declared.failure.Failure.{Failure}
use Rattle.amber_course.specs.declared.failure.Failure.TheVariants as failure
use Rattle.amber_course.specs.declared.input.InputFault.TheVariants as fault
use Rattle.amber_course.specs.declared.session.SessionJob.{SessionJob}
use Rattle.amber_course.specs.declared.status.Status.{Status}
use Rattle.amber_course.specs.declared.status.Status.TheVariants as status
use Rattle.amber_meaning.specs.Total.{step_total}
use Rattle.amber_recorder.specs.Left.{AlterNothing}
use Rattle.amber_recorder.specs.Writing.{FailedAs, NoneFailed}
use Rattle.amber_script.specs.Lines.{ended_lines}
use Rattle.amber_script.specs.Script.{script_lines}
use Rattle.amber_session.specs.Answers.{most_session_steps}
use Rattle.amber_session.specs.Beginning.{AskFor, IsNotStarted, IsSessionLoad, MissesSessionWords}
use Rattle.amber_session.specs.Dialogue.{most_input}
use Rattle.amber_session.specs.Spoken.{HasSpoken, IsCutShort, IsAllDone, Origin, Plan, query_for}
use Rattle.amber_session.specs.Talk.{accepted}
use Rattle.amber_session.specs.declared.dialogue.Dialogue.{Dialogue}
use Rattle.amber_session.specs.declared.halt.Halt.{Halt}
use Rattle.amber_session.specs.declared.halt.Halt.TheVariants as halt

-- what is told of a session that ended early
abbrev pub failure_of : Halt → Failure
failure_of (halt.Failure f) = f
failure_of (halt.Input fault) = failure_of_input fault

-- ---- outside

-- a source: the bytes that it has left, and how many reads have failed
pub record Supply : Type 0 where
  pub left : Option (List ℕ)
  pub faults : ℕ

-- what there is outside a session: the files and the sink, and the source
pub record Surroundings : Type 0 where
  pub world : World
  pub supply : Supply

-- the input is told as unread only where a read has failed
abbrev pub ReadsAs : Halt → Supply → Supply → Type 0
ReadsAs (halt.Input fault.Unread) old new = (old.faults ≤ new.faults) × Rose old.faults new.faults
ReadsAs other old new = new.faults ≡ old.faults

abbrev pub ReadCounted : {A : Type 0} → Result A Halt → Supply → Supply → Type 0
ReadCounted (Ok x) old new = new.faults ≡ old.faults
ReadCounted (Err h) old new = ReadsAs h old new

-- what has failed beside the source
abbrev pub HaltCounted : {A : Type 0} → Result A Halt → World → World → Type 0
HaltCounted (Ok x) before after = NoneFailed before after
HaltCounted (Err h) before after = FailedAs (failure_of h) before after

-- a piece was read, none at the end; or there was none
abbrev pub GivesPiece : Result (Vec ℕ Global) Halt → Supply → Supply → Type 0
GivesPiece (Ok piece) old new = TakesNext old.left new.left piece.items
GivesPiece (Err h) old new = Keeps old.left new.left

-- no piece comes only for want of memory, or since the read failed
abbrev pub IsPieceless : Halt → Type 0
IsPieceless (halt.Failure failure.NoMemory) = ⊤
IsPieceless (halt.Failure other) = ⊥
IsPieceless (halt.Input fault.Unread) = ⊤
IsPieceless (halt.Input fault.Large) = ⊥

-- ---- the steps

-- a session has come so far: what it is to do, and all lines that were ended are answered
pub record HasCome (o : Origin) (job : SessionJob) (d : Dialogue) (world : World) : Type 0 where
  pub name : d.log_name ≡ job.log
  pub flow : d.debugger.flow ≡ job.inputs.flow
  pub files : d.debugger.files ≡ job.inputs.files
  pub batch : d.debugger.log.batch ≡ job.batch_size
  pub spoken : HasSpoken o (record { name = job.log; run = d.debugger; lines = ended_lines d.input.bytes.items }) world

-- a step of a session
pub record Step : Type 0 where
  pub old : Dialogue
  pub new : Dialogue
  pub before : Surroundings
  pub after : Surroundings

-- these bytes were taken from the source and fed, and the lines that they end were answered
pub record HasFed (s : Step) (input : List ℕ) : Type 0 where
  pub fed : s.new.input.bytes.items ≡ s.old.input.bytes.items ++ input
  pub taken : Consumes s.before.supply.left s.after.supply.left input
  pub come : (o : Origin) (job : SessionJob) → HasCome o job s.old s.before.world → HasCome o job s.new s.after.world

-- these bytes are all that were left, where that is known
abbrev pub IsAllOf : List ℕ → Option (List ℕ) → Type 0
IsAllOf input left = IfSome left (λ bytes. input ≡ bytes)

-- the input is told as too large exactly where so much was taken
abbrev pub IsSized : Halt → List ℕ → Type 0
IsSized (halt.Input fault.Large) input = most_input < length input
IsSized other input = length input ≤ most_input

-- what a session was to answer that has taken this much of its input, and perhaps all of it
abbrev pub plan_of : SessionJob → List ℕ → Bool → Plan
plan_of job input over = record { job = job; lines = if over then script_lines input else ended_lines input; over = over }

-- why a session that was begun may be cut short: by what may fail then, or by its input
abbrev pub MayCutShort : Halt → Type 0
MayCutShort (halt.Failure failure.LogFault) = ⊤
MayCutShort (halt.Failure failure.OutFault) = ⊤
MayCutShort (halt.Failure failure.Long) = ⊤
MayCutShort (halt.Failure failure.NoMemory) = ⊤
MayCutShort (halt.Failure other) = ⊥
MayCutShort (halt.Input fault) = ⊤

-- bytes were taken from the source, perhaps none, and then the session was cut short before its input was over
pub record CutsOff (h : Halt) (s : Step) : Type 0 where
  pub may : MayCutShort h
  pub input : List ℕ
  pub taken : Consumes s.before.supply.left s.after.supply.left input
  pub sized : IsSized h (s.old.input.bytes.items ++ input)
  pub cut : (o : Origin) (job : SessionJob) → HasCome o job s.old s.before.world
      → IsCutShort (failure_of h) o (plan_of job (s.old.input.bytes.items ++ input) false) s.after.world

-- the next piece was fed, and there is none only at the end; or the session was cut short
abbrev pub FeedsNext : Result Bool Halt → Step → Type 0
FeedsNext (Ok true) s = (input : List ℕ) × HasFed s input × (input ≢ [])
FeedsNext (Ok false) s = HasFed s [] × IsAtEnd s.before.supply.left
FeedsNext (Err h) s = CutsOff h s

-- all bytes of the source were fed, or the session was cut short
abbrev pub FeedsAll : Result (Unit {0}) Halt → Step → Type 0
FeedsAll (Ok x) s = (input : List ℕ) × HasFed s input × IsAllOf input s.before.supply.left
FeedsAll (Err h) s = CutsOff h s

-- ---- the whole, before an error line

-- what there was before a session
abbrev pub origin_of : World → Origin
origin_of before = record { told = before.files; got = before.got }

-- the words ask for a session, and all that it needs was loaded
pub record HasBegun (words : List (List ℕ)) (job : SessionJob) (before after : Surroundings) : Type 0 where
  pub asked : AskFor words before.world.files job
  pub loads : after.world.loads ≡ before.world.loads

-- all of the source was read, all lines of this input were answered, and then came the end
pub record HasRun (words : List (List ℕ)) (before after : Surroundings) : Type 0 where
  pub job : SessionJob
  pub begun : HasBegun words job before after
  pub input : List ℕ
  pub few : length input ≤ most_input
  pub taken : Consumes before.supply.left after.supply.left input
  pub whole : IsAllOf input before.supply.left
  pub done : IsAllDone (origin_of before.world) job input after.world

-- the session was begun, and cut short: what was to be done at the end came only where its input was over
pub record HasBeenCut (h : Halt) (words : List (List ℕ)) (before after : Surroundings) : Type 0 where
  pub may : MayCutShort h
  pub job : SessionJob
  pub begun : HasBegun words job before after
  pub input : List ℕ
  pub taken : Consumes before.supply.left after.supply.left input
  pub sized : IsSized h input
  pub over : Bool
  pub ends : over ≡ true → IsAllOf input before.supply.left
  pub cut : IsCutShort (failure_of h) (origin_of before.world) (plan_of job input over) after.world

-- the session was not begun, and nothing was read of the source
abbrev pub IsNotBegun : Failure → List (List ℕ) → Surroundings → Surroundings → Type 0
IsNotBegun f words before after = IsNotStarted f words before.world after.world × (after.supply ≡ before.supply)

-- why a session ended early: it was not begun, or it was cut short
abbrev pub HaltLeaves : Halt → List (List ℕ) → Surroundings → Surroundings → Type 0
HaltLeaves (halt.Failure f) words before after = IsNotBegun f words before after ⊎ HasBeenCut (halt.Failure f) words before after
HaltLeaves (halt.Input fault) words before after = HasBeenCut (halt.Input fault) words before after

abbrev pub DoesSession : Result (Unit {0}) Halt → List (List ℕ) → Surroundings → Surroundings → Type 0
DoesSession (Ok x) words before after = HasRun words before after
DoesSession (Err h) words before after = HaltLeaves h words before after

-- the words are refused where they ask for nothing, and only there
abbrev pub HaltWorded : Result (Unit {0}) Halt → List (List ℕ) → Type 0
HaltWorded (Ok x) words = IsSome (session_words_of words)
HaltWorded (Err (halt.Failure f)) words = MissesSessionWords f words
HaltWorded (Err (halt.Input fault)) words = IsSome (session_words_of words)

-- a file that could not be read is one that the order of work loads
abbrev pub HaltNames : Result (Unit {0}) Halt → (List ℕ → Type 0) → Type 0
HaltNames (Ok x) IsName = ⊤
HaltNames (Err (halt.Failure f)) IsName = Names f IsName
HaltNames (Err (halt.Input fault)) IsName = ⊤

-- ---- the whole

-- why a session ended early, what it left, and then its line was put, as far as the sink took it
pub record IsRefusedRun (words : List (List ℕ)) (result : Status) (before after : Surroundings) : Type 0 where
  pub cause : Halt
  pub answer : IsToldAs (failure_of cause) result
  -- what there was before the line
  pub between : Surroundings
  pub left : HaltLeaves cause words before between
  pub told : Refuses result (failure_of cause) between.world after.world
  pub only : PutsOnly between.world after.world
  pub supply : after.supply ≡ between.supply
  pub words_read : HaltWorded (Err cause) words
  pub named : Told before.world.files (λ files. HaltNames (Err cause) (IsSessionLoad words files))
  pub reads : ReadsAs cause before.supply between.supply
  pub counted : FailedAs (failure_of cause) (record before.world { loads = between.world.loads }) between.world

-- it is told that a session was run to its end, or its line was put
abbrev pub Concludes : Result (Unit {0}) Halt → Status → World → World → Type 0
Concludes (Ok x) result before after = (result ≡ status.Ok) × (after ≡ before)
Concludes (Err h) result before after = Refuses result (failure_of h) before after × IsToldAs (failure_of h) result × PutsOnly before after

-- a session was run to its end, and nothing has failed
pub record IsRun (words : List (List ℕ)) (before after : Surroundings) : Type 0 where
  pub ran : HasRun words before after
  pub failed : NoneFailed before.world after.world
  pub reads : after.supply.faults ≡ before.supply.faults

-- a session of these words was run to its end, or it was refused
abbrev pub RunsSession : List (List ℕ) → Status → Surroundings → Surroundings → Type 0
RunsSession words status.Ok before after = IsRun words before after
RunsSession words other before after = IsRefusedRun words other before after

-- ---- that it is run to its end

-- nothing outside has failed
pub record NothingFailed (before after : Surroundings) : Type 0 where
  pub loads : ¬ (Rose before.world.loads after.world.loads)
  pub writes : ¬ (Rose before.world.writes after.world.writes)
  pub puts : ¬ (Rose before.world.puts after.world.puts)
  pub reads : ¬ (Rose before.supply.faults after.supply.faults)

-- an input that is no larger than may be, whose lines set no constant and drop no row, and a query of no more steps than may be
pub record IsWithinLimits (job : SessionJob) (input : List ℕ) : Type 0 where
  pub few : length input ≤ most_input
  pub unaltered : AlterNothing (accepted job.inputs.flow (script_lines input))
  pub steps : step_total (query_for job) ≤ most_session_steps

-- over told files and a source that tells what is left, a session within all limits comes to its end where nothing outside fails, unless
-- memory runs out
abbrev pub IsComplete : List (List ℕ) → Status → Surroundings → Surroundings → Type 0
IsComplete words result before after = Told before.world.files (λ files. (job : SessionJob) (input : List ℕ) → session_course_of words files ≡ Ok job
    → before.supply.left ≡ Some input → IsWithinLimits job input → NothingFailed before after → (result ≡ status.Ok) ⊎ (result ≡ status.NoMemory))
