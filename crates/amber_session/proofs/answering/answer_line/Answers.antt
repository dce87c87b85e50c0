-- A line is skipped, refused, or its command is done.
use Rattle.std.proofs.Common.{◌∙◌, sym, refl}
use Rattle.std.specs.Str.Lines.{strip_carriage_return}
use Rattle.amber_recorder.specs.Recording.{Doing}
use Rattle.amber_session.proofs.Answered.{answers-command, answers-skipped, line-bad, scripted-end, sound-next}
use Rattle.amber_session.proofs.answering.answer_line.Goals as goal

pub returns-in-Skipped-clause-answers : goal.returns-in-Skipped-clause-answers
returns-in-Skipped-clause-answers g c =
    answers-skipped _ (strip_carriage_return c.args.line.now) ((rw c.flow.ensures at (sym c.in_ok-read_line.ensures.said)) ∙ c.in-Skipped.is) refl refl

pub returns-in_ok-do_command-in-Command-clause-answers : goal.returns-in_ok-do_command-in-Command-clause-answers
returns-in_ok-do_command-in-Command-clause-answers g c =
    answers-command c.in_ok-do_command-in-Command.field-0 _ (strip_carriage_return c.args.line.now) c.in-Command.command
    ((rw c.flow.ensures at (sym c.in_ok-read_line.ensures.said)) ∙ c.in-Command.is) c.in_ok-do_command-in-Command.ensures.performs

pub returns-in_ok-do_command-in-Command-clause-sound : goal.returns-in_ok-do_command-in-Command-clause-sound
returns-in_ok-do_command-in-Command-clause-sound g c =
    let done = c.in_ok-do_command-in-Command.ensures in
    let d : Doing = record {
      name = c.args.recorder.now.log_name.now;
      command = c.in-Command.command;
      old = c.args.debugger.now;
      new = c.do_command.new.debugger;
      before = g.W.Outside.world c.args.recorder.now.outside.now;
      after = g.W.Outside.world c.do_command.new.self.outside.now;
    } in
    sound-next c.in_ok-do_command-in-Command.field-0 d c.requires.sound done.performs done.legal
    (done.open (scripted-end c.in-Command.command (rw c.in-Command.is at c.in_ok-read_line.ensures.scripted)))

pub returns-in_ok-text-in-Bad-clause-answers : goal.returns-in_ok-text-in-Bad-clause-answers
returns-in_ok-text-in-Bad-clause-answers g c =
    line-bad c.answer.result _ (strip_carriage_return c.args.line.now) c.as_slice.result.now c.in-Bad.why
    ((rw c.flow.ensures at (sym c.in_ok-read_line.ensures.said)) ∙ c.in-Bad.is) refl (c.as_slice.ensures.value ∙ c.in_ok-text-in-Bad.ensures) c.answer.ensures.sent c.answer.ensures.only
