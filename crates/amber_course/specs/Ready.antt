-- What a job is made of beside what was loaded, and which words ask for it.
use Rattle.std.specs.Prelude.{◌≡◌, ◌^◌, ◌<◌, ⊤, List, length, true}
use Rattle.std.specs.List.{flat_map, list_all}
use Rattle.amber_rows.specs.declared.flow.Operator.{Operator}
use Rattle.amber_log.specs.Fits.{fits_of}
use Rattle.amber_log.specs.Grammar.{IsLog}
use Rattle.amber_log.specs.LogText.{item_lines}
use Rattle.amber_log.specs.declared.command.Command.{Command}
use Rattle.amber_course.specs.Words.{AreSizes, AreThreads}
use Rattle.amber_script.specs.Commands.{is_scripted}
use Rattle.amber_course.specs.declared.job.Job.{Job}
use Rattle.amber_course.specs.declared.job.Job.TheVariants as job
use Rattle.amber_course.specs.declared.job.RecoverJob.{RecoverJob}
use Rattle.amber_course.specs.declared.job.ReplayJob.{ReplayJob}
use Rattle.amber_course.specs.declared.job.RunJob.{RunJob}
use Rattle.amber_course.specs.declared.words.Words.{Words}
use Rattle.amber_course.specs.declared.words.Words.TheVariants as form

-- commands as a script may have them, which fit the workflow
pub record AreOfScript (flow : List Operator) (commands : List Command) : Type 0 where
  pub fit : list_all (fits_of flow) commands ≡ true
  pub scripted : list_all is_scripted commands ≡ true

-- the sizes are in their ranges, and the commands fit the workflow
pub record IsRunReady (run : RunJob) : Type 0 where
  pub sizes : AreSizes run.threads run.batch_size
  pub commands : AreOfScript run.inputs.flow run.commands

-- the log has a text, of fewer lines than 2^32
pub record IsReplayReady (r : ReplayJob) : Type 0 where
  pub text : IsLog r.log
  pub few : length (flat_map item_lines r.log.items) < 2 ^ 32

-- the threads are in their range, the commands fit the workflow, and the old log has a text, of fewer lines than 2^32
pub record IsRecoverReady (r : RecoverJob) : Type 0 where
  pub threads : AreThreads r.threads
  pub commands : AreOfScript r.inputs.flow r.commands
  pub text : IsLog r.old
  pub few : length (flat_map item_lines r.old.items) < 2 ^ 32

abbrev pub IsReady : Job → Type 0
IsReady (job.Plain inputs) = ⊤
IsReady (job.Run run) = IsRunReady run
IsReady (job.Replay r) = IsReplayReady r
IsReady (job.Recover r) = IsRecoverReady r

-- a job that writes no file
abbrev pub WritesNothing : Job → Type 0
WritesNothing (job.Plain inputs) = ⊤
WritesNothing (job.Run run) = ⊥
WritesNothing (job.Replay r) = ⊤
WritesNothing (job.Recover r) = ⊥

-- words that ask for no run have a job that writes no file
abbrev pub IsAskedBy : Words → Job → Type 0
IsAskedBy (form.Plain workflow) job = WritesNothing job
IsAskedBy (form.Run words) job = ⊤
IsAskedBy (form.Replay words) job = WritesNothing job
IsAskedBy (form.Recover words) job = ⊤
