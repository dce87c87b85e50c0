-- What a run is to do.
use Rattle.std.specs.Prelude.{◌≡◌, ℕ, ◌^◌, List, [], ◌++◌, map}
use Rattle.amber_io.specs.World.{World}
use Rattle.amber_rows.specs.declared.flow.Operator.{Operator}
use Rattle.amber_log.specs.declared.command.Command.{Command}
use Rattle.amber_log.specs.Items.{command_of}
use Rattle.amber_log.specs.declared.log.Item.{Item}
use Rattle.amber_log.specs.declared.log.Log.{Log}
use Rattle.amber_meaning.specs.Legal.{IsLegal, Query, query_over}
pub use Rattle.amber_course.specs.Course.{end_alone}
use Rattle.amber_course.specs.declared.job.RecoverJob.{RecoverJob}
use Rattle.amber_course.specs.declared.job.RunJob.{RunJob}
use Rattle.amber_debug.specs.Session.{Session}

-- what is fixed once nothing is left that refuses a run
pub record RunTask : Type 0 where
  -- what there is outside before the log is made
  pub before : World
  -- the log's name
  pub name : List ℕ
  pub flow : List Operator
  -- the scans' files
  pub inputs : List (List ℕ)
  -- how many rows a batch has
  pub batch_size : ℕ
  -- the items of an old log from which the run goes on; none of a run that begins
  pub begun : List Item
  -- the script's commands, then the one to run to the end
  pub commands : List Command

-- how many steps a run may make
abbrev pub most_steps : ℕ
most_steps = 2 ^ 40

-- what is run, in batches of this size
abbrev pub query_at : RunTask → ℕ → Query
query_at t batch_size = query_over t.flow t.inputs batch_size most_steps

-- the task goes on from this log, into one of this name, where outside all is as here
pub record GoesOnFrom (t : RunTask) (old : Log) (log_name : List ℕ) (world : World) : Type 0 where
  pub before : t.before ≡ world
  pub name : t.name ≡ log_name
  pub batch : t.batch_size ≡ old.batch
  pub begun : t.begun ≡ old.items
  pub legal : IsLegal (query_at t t.batch_size) old
  pub left : List Command
  pub commands : map command_of t.begun ++ left ≡ t.commands

-- the session runs what the task asks for
pub record IsSession (t : RunTask) (d : Session) : Type 0 where
  pub flow : d.flow ≡ t.flow
  pub inputs : d.files ≡ t.inputs
  pub most : d.most ≡ most_steps

-- a run is to do the commands of its script, and then to go to the end
abbrev pub run_task_of : World → RunJob → RunTask
run_task_of before run = record {
  before = before;
  name = run.log;
  flow = run.inputs.flow;
  inputs = run.inputs.files;
  batch_size = run.batch_size;
  begun = [];
  commands = run.commands ++ end_alone;
}

-- a recovery is to do the commands of its script behind those of the old log, and then to go to the end
abbrev pub recover_task_of : World → RecoverJob → RunTask
recover_task_of before r = record {
  before = before;
  name = r.log;
  flow = r.inputs.flow;
  inputs = r.inputs.files;
  batch_size = r.old.batch;
  begun = r.old.items;
  commands = r.commands ++ end_alone;
}
