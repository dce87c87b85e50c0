-- A command more is done, and after all of them the one to the end.
use Rattle.std.proofs.Common.{◌≡◌, ◌+◌, ◌++◌, [], Ok, Err, drop, refl, subst, sym, ◌∙◌, rules}
use Rattle.amber_log.specs.Fits.{fits_of}
use Rattle.amber_log.specs.declared.command.Command.TheVariants as command
use Rattle.amber_script.specs.Commands.{is_scripted}
use Rattle.amber_recorder.specs.Recording.{Doing}
use Rattle.amber_run.specs.RunTask.{end_alone}
use Rattle.amber_run.specs.UnderWay.{IsAt}
use Rattle.amber_run.proofs.Scripted.{command-left, element-passes, none-left, scripted-end}
use Rattle.amber_run.proofs.Working.{at-performed}
use Rattle.amber_run.proofs.run_job.do_script.Goals as goal

pub returns-in_err-do_command-clause-did : goal.returns-in_err-do_command-clause-did
returns-in_err-do_command-clause-did g c =
    λ t same h.
    let e : c.from_residual.result ≡ Err c.in_err-do_command.field-0.0 = search rules in
    let i = c.loop-command.command-index in
    let rest = command-left c.args.commands.now end_alone i c.command-item.result c.loop-command-test.true c.command-item.is in
    let here = subst (λ commands. IsAt t commands c.loop-command.debugger (g.W.Outside.world c.loop-command.recorder.outside.now)) rest (c.loop-command.invariant.at t end_alone same h) in
    let d : Doing = record {
      name = c.loop-command.recorder.log_name.now;
      command = c.command-item.result;
      old = c.loop-command.debugger;
      new = c.do_command.new.debugger;
      before = g.W.Outside.world c.loop-command.recorder.outside.now;
      after = g.W.Outside.world c.do_command.new.self.outside.now;
    } in
    rw e (rw c.in_err-do_command.was at (at-performed c.do_command.result t (drop (i + 1) c.args.commands.now ++ end_alone) d (c.loop-command.invariant.same_log ∙ sym same) here
    c.do_command.ensures.performs c.do_command.ensures.legal))

pub loop-command-preserved : goal.loop-command-preserved
loop-command-preserved g c =
    let i = c.loop-command.command-index in
    let sofar = c.loop-command.invariant in
    let done = c.in_ok-do_command.ensures in
    let d : Doing = record {
      name = c.loop-command.recorder.log_name.now;
      command = c.command-item.result;
      old = c.loop-command.debugger;
      new = c.do_command.new.debugger;
      before = g.W.Outside.world c.loop-command.recorder.outside.now;
      after = g.W.Outside.world c.do_command.new.self.outside.now;
    } in
    record {
      at = λ t left same h.
          let rest = command-left c.args.commands.now left i c.command-item.result c.loop-command-test.true c.command-item.is in
          let here = subst (λ commands. IsAt t commands c.loop-command.debugger (g.W.Outside.world c.loop-command.recorder.outside.now)) rest (sofar.at t left same h) in
          at-performed (Ok c.in_ok-do_command.field-0) t (drop (i + 1) c.args.commands.now ++ left) d (sofar.same_log ∙ sym same) here done.performs done.legal;
      flow = done.performs.1.0.flow ∙ sofar.flow;
      more = done.open (scripted-end c.command-item.result
          (element-passes is_scripted c.args.commands.now i c.command-item.result c.loop-command-test.true c.command-item.is c.requires.script.scripted));
      there = rw sofar.same_log at done.there;
      counted = (done.counted.0 ∙ sofar.counted.0, done.counted.1 ∙ sofar.counted.1, done.counted.2 ∙ sofar.counted.2);
      held = done.held ∙ sofar.held;
      same_outside = done.same_outside ∙ sofar.same_outside;
      same_log = done.same_log ∙ sofar.same_log;
    }

pub do_command-requires-2-clause-fits : goal.do_command-requires-2-clause-fits
unfolding fits_of
do_command-requires-2-clause-fits g c = λ lifetimes within. refl

pub returns-clause-did : goal.returns-clause-did
returns-clause-did g c =
    λ t same h.
    let here = subst (λ commands. IsAt t commands c.loop-command.debugger (g.W.Outside.world c.loop-command.recorder.outside.now))
    (none-left c.args.commands.now end_alone c.loop-command.command-index c.loop-command-test.false) (c.loop-command.invariant.at t end_alone same h) in
    let d : Doing = record {
      name = c.loop-command.recorder.log_name.now;
      command = command.End;
      old = c.loop-command.debugger;
      new = c.do_command-2.new.debugger;
      before = g.W.Outside.world c.loop-command.recorder.outside.now;
      after = g.W.Outside.world c.do_command-2.new.self.outside.now;
    } in
    at-performed c.do_command-2.result t [] d (c.loop-command.invariant.same_log ∙ sym same) here c.do_command-2.ensures.performs c.do_command-2.ensures.legal
