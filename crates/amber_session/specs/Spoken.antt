-- What a session has left outside: its log's file, and what the sink got.
use Rattle.std.specs.Prelude.{◌≡◌, ℕ, ◌+◌, ◌<◌, ◌⊎◌, ⊤, List, [], ◌∷◌, ◌++◌, length, map, Option, Ok, Bool, true, false}
use Rattle.std.specs.Io.KnownBytes.{Appends}
use Rattle.amber_io.specs.Folder.{Named, with_file}
use Rattle.amber_io.specs.World.{World}
use Rattle.amber_log.specs.LogText.{log_text}
use Rattle.amber_log.specs.declared.command.Command.{Command}
use Rattle.amber_log.specs.declared.command.Command.TheVariants as command
use Rattle.amber_log.specs.declared.log.Item.{Item}
use Rattle.amber_meaning.specs.InTime.{AreInTime}
use Rattle.amber_meaning.specs.Legal.{IsLegal, IsUnaltered, Query, query_over}
use Rattle.amber_meaning.specs.Plain.{answer_of}
use Rattle.amber_meaning.specs.Replay.{state_after}
use Rattle.amber_meaning.specs.State.{start_of}
use Rattle.amber_meaning.specs.Texts.{answer_text}
use Rattle.amber_meaning.specs.Total.{step_total}
use Rattle.amber_meaning.specs.Transcript.{reply_of, transcript_of}
use Rattle.amber_leg.specs.Leg.{most_late}
use Rattle.amber_debug.specs.Session.{Session, command_of, query_in}
use Rattle.amber_course.specs.declared.failure.Failure.{Failure}
use Rattle.amber_course.specs.declared.failure.Failure.TheVariants as failure
use Rattle.amber_course.specs.declared.session.SessionJob.{SessionJob}
use Rattle.amber_recorder.specs.Left.{AlterNothing, IsHalted}
use Rattle.amber_laws.specs.CountStops.{StopForCounts}
use Rattle.amber_script.specs.Script.{said_by, script_lines, script_of}
use Rattle.amber_script.specs.declared.script_line.ScriptLine.{ScriptLine}
use Rattle.amber_script.specs.declared.script_line.ScriptLine.TheVariants as script_line
use Rattle.amber_session.specs.Answers.{HalfRefuses, IsSound, Stretch, doing, most_session_steps}
use Rattle.amber_session.specs.Talk.{accepted, talk_of}

-- what there was before a session: the files, and what the sink had got
pub record Origin : Type 0 where
  pub told : Option Named
  pub got : Option (List ℕ)

-- the log's name, the debugger, and the lines that were answered
pub record Spoken : Type 0 where
  pub name : List ℕ
  pub run : Session
  pub lines : List (List ℕ)

-- the log is legal, and its commands are those of the lines; its file holds its text, all other files are as before, and the sink got
-- what is said to the lines
pub record HasSpoken (o : Origin) (k : Spoken) (world : World) : Type 0 where
  pub sound : IsSound k.run
  pub commands : map command_of k.run.log.items ≡ accepted k.run.flow k.lines
  pub place : world.files ≡ with_file o.told k.name (log_text k.run.log)
  pub sent : Appends o.got world.got (talk_of (query_in k.run) k.lines k.run.log.items)

-- ---- a session that was finished

-- what a session runs
abbrev pub query_for : SessionJob → Query
query_for job = query_over job.inputs.flow job.inputs.files job.batch_size most_session_steps

-- a session that has answered all lines of its input and then gone to the end
pub record IsAllDone (o : Origin) (job : SessionJob) (input : List ℕ) (world : World) : Type 0 where
  -- the items of the lines' commands, and that of the end
  pub done : List Item
  pub last : Item
  pub legal : IsLegal (query_for job) (record { batch = job.batch_size; items = done ++ last ∷ [] })
  pub in_time : AreInTime (query_for job) most_late (start_of job.inputs.flow) (done ++ last ∷ [])
  pub commands : map command_of done ≡ accepted job.inputs.flow (script_lines input)
  pub ends : command_of last ≡ command.End
  pub place : world.files ≡ with_file o.told job.log (log_text (record { batch = job.batch_size; items = done ++ last ∷ [] }))
  pub sent : Appends o.got world.got (talk_of (query_for job) (script_lines input) done ++ reply_of (query_for job) (state_after (query_for job) done) last)
  -- where no item sets a constant or drops a row, the reply to the end is the text of the sequential answer
  pub answer : IsUnaltered (done ++ last ∷ [])
      → reply_of (query_for job) (state_after (query_for job) done) last ≡ answer_text job.inputs.flow (answer_of job.inputs.flow job.inputs.files)
  -- its legs stop for counts exactly at their targets, and say so
  pub counts : StopForCounts (query_for job) (done ++ last ∷ [])
  -- where no line is refused the input is a script, with these commands, and the sink got what a run by that script prints
  pub scripted : (commands : List Command) → script_of input job.inputs.flow ≡ Ok commands
      → (map command_of done ≡ commands) × Appends o.got world.got (transcript_of (query_for job) (done ++ last ∷ []))

-- ---- a session that was cut short

-- what a session was to do, the lines that it was to answer, and whether behind them comes the end
pub record Plan : Type 0 where
  pub job : SessionJob
  pub lines : List (List ℕ)
  pub over : Bool

-- nothing came of what was to come next: there was no memory for it, or no more of the input was to be had
abbrev pub NothingCame : Failure → World → World → Type 0
NothingCame failure.LogFault before after = ⊥
NothingCame failure.OutFault before after = ⊥
NothingCame failure.Long before after = ⊥
NothingCame other before after = (after.files ≡ before.files) × (after.got ≡ before.got)

-- where a read has failed no line waits for its answer: all that were read before were answered
abbrev pub NoneWaits : Failure → List (List ℕ) → Type 0
NoneWaits (failure.ReadFault name) more = more ≡ []
NoneWaits other more = ⊤

-- the next line says this, and its refusal was not put as it should be, or its command was not done
abbrev pub LosesLine : Failure → Origin → Stretch → ScriptLine → Type 0
LosesLine f o s script_line.Skipped = (f ≡ failure.NoMemory) × NothingCame f s.before s.after
LosesLine f o s (script_line.Bad why) = HalfRefuses f s why
LosesLine f o s (script_line.Command command) = IsHalted f o.told (doing s command)

-- behind the lines that were answered the next one was lost, or where all were answered the command to run to the end
abbrev pub LosesNext : Failure → Origin → Stretch → List (List ℕ) × Bool → Type 0
LosesNext f o s ([], true) = IsHalted f o.told (doing s command.End)
LosesNext f o s ([], false) = ⊥
LosesNext f o s (line ∷ later, over) = LosesLine f o s (said_by s.old.flow line)

-- a session ended early: the first lines were answered, and then came nothing more, or less than was to come next
pub record IsCutShort (f : Failure) (o : Origin) (plan : Plan) (after : World) : Type 0 where
  -- the lines that were answered, and those that were not
  pub lines : List (List ℕ)
  pub more : List (List ℕ)
  pub all : lines ++ more ≡ plan.lines
  -- the debugger and the outside between the two, and the debugger behind what was lost
  pub old : Session
  pub new : Session
  pub before : World
  pub flow : old.flow ≡ plan.job.inputs.flow
  pub files : old.files ≡ plan.job.inputs.files
  pub batch : old.log.batch ≡ plan.job.batch_size
  pub spoken : HasSpoken o (record { name = plan.job.log; run = old; lines = lines }) before
  pub stop : (NothingCame f before after × NoneWaits f more)
      ⊎ LosesNext f o (record { name = plan.job.log; number = length lines + 1; old = old; new = new; before = before; after = after }) (more, plan.over)
  -- a leg is too long only where a line sets a constant or drops a row, or the query has too many steps
  pub long : f ≡ failure.Long → AlterNothing (accepted plan.job.inputs.flow lines) → most_session_steps < step_total (query_for plan.job)
