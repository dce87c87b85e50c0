-- The run is at the commands that are left.
use Rattle.std.proofs.Common.{◌≡◌, List, ◌++◌, drop, false}
use Rattle.amber_io.specs.Folder.{IsThere}
use Rattle.amber_log.specs.Grammar.{ends_over}
use Rattle.amber_log.specs.declared.command.Command.{Command}
use Rattle.amber_recorder.specs.Writing.{NoneFailed}
use Rattle.amber_run.specs.RunTask.{RunTask}
use Rattle.amber_run.specs.UnderWay.{IsAt}
use Rattle.amber_run.proofs.run_job.do_script.Given as goal

abbrev pub invariant-loop-command : goal.invariant-loop-command
invariant-loop-command g l = record {
  at : (t : RunTask) (left : List Command) → t.name ≡ l.fn.recorder.log_name.now
      → IsAt t (l.fn.commands ++ left) l.fn.debugger (g.W.Outside.world l.fn.recorder.outside.now)
      → IsAt t (drop l.command-index l.fn.commands ++ left) l.debugger (g.W.Outside.world l.recorder.outside.now);
  flow : l.debugger.flow ≡ l.fn.debugger.flow;
  more : ends_over false l.debugger.log.items ≡ false;
  there : IsThere (g.W.Outside.world l.recorder.outside.now).files l.fn.recorder.log_name.now;
  counted : NoneFailed (g.W.Outside.world l.fn.recorder.outside.now) (g.W.Outside.world l.recorder.outside.now);
  held : g.W.Outside.held l.recorder.outside.now ≡ g.W.Outside.held l.fn.recorder.outside.now;
  same_outside : l.recorder.outside.ghost_name ≡ l.fn.recorder.outside.ghost_name;
  same_log : l.recorder.log_name.now ≡ l.fn.recorder.log_name.now;
}
