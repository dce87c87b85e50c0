-- The last line, and then the command to run to the end, which fits any workflow.
use Rattle.std.proofs.Common.{◌+◌, ◌-◌, ◌∙◌, Ok, Err, length, take, drop, refl, rules}
use Rattle.std.specs.Str.Lines.{strip_carriage_return}
use Rattle.amber_io.specs.World.{World}
use Rattle.amber_log.specs.Fits.{fits_of}
use Rattle.amber_script.specs.Lines.{ended_lines, open_line}
use Rattle.amber_session.specs.Answers.{Stretch}
use Rattle.amber_session.proofs.Closing.{ends-done, ends-failed, last-answered, stopped-last}
use Rattle.amber_session.proofs.dialogue.Dialogue.finish.Goals as goal

pub do_command-requires-clause-fits : goal.do_command-requires-clause-fits
unfolding fits_of
do_command-requires-clause-fits g c = λ lifetimes within. refl

pub returns-in_err-answer_line-clause-finishes : goal.returns-in_err-answer_line-clause-finishes
returns-in_err-answer_line-clause-finishes g c =
    let d = c.args.self.now in
    let f = c.in_err-answer_line.field-0.0 in
    let bytes = c.deref.result.now in
    let line = strip_carriage_return (open_line d.input.bytes.items) in
    let s : Stretch = record {
      name = d.log_name;
      number = length (ended_lines d.input.bytes.items) + 1;
      old = d.debugger;
      new = c.answer_line.new.debugger;
      before = g.W.Outside.world c.args.outside.now;
      after = g.W.Outside.world c.answer_line.new.recorder.outside.now;
    } in
    stopped-last c.from_residual.result f s line _ (search rules) (search rules)
    (last-answered (Err f) d s _ (take (length bytes - d.input.begun) (drop d.input.begun bytes)) _ c.requires.going (c.new-recorder.ensures.log_name ∙ c.get.ensures) (rw c.new-recorder.ensures.outside refl) refl (rw c.deref.ensures.value refl)
    c.in_err-answer_line.ensures.answers)

pub returns-in_err-do_command-clause-finishes : goal.returns-in_err-do_command-clause-finishes
returns-in_err-do_command-clause-finishes g c =
    let d = c.args.self.now in
    let bytes = c.deref.result.now in
    let line = strip_carriage_return (open_line d.input.bytes.items) in
    let mid : World = g.W.Outside.world c.answer_line.new.recorder.outside.now in
    let s : Stretch = record {
      name = d.log_name;
      number = length (ended_lines d.input.bytes.items) + 1;
      old = d.debugger;
      new = c.do_command.new.debugger;
      before = g.W.Outside.world c.args.outside.now;
      after = g.W.Outside.world c.do_command.new.self.outside.now;
    } in
    let answered = last-answered (Ok tt) d (record s { new = c.answer_line.new.debugger; after = mid }) _ (take (length bytes - d.input.begun) (drop d.input.begun bytes)) _ c.requires.going (c.new-recorder.ensures.log_name ∙ c.get.ensures)
    (rw c.new-recorder.ensures.outside refl) refl (rw c.deref.ensures.value refl) c.in_ok-answer_line.ensures.answers in
    ends-failed c.do_command.result c.from_residual-in_err-do_command.result c.in_err-do_command.field-0.0 s line _ c.answer_line.new.debugger mid _ (search rules) answered
    c.in_ok-answer_line.ensures.sound (c.in_ok-answer_line.ensures.same_log ∙ c.new-recorder.ensures.log_name ∙ c.get.ensures) (search rules) c.in_err-do_command.ensures.performs

pub returns-clause-finishes : goal.returns-clause-finishes
returns-clause-finishes g c =
    let d = c.args.self.now in
    let bytes = c.deref.result.now in
    let line = strip_carriage_return (open_line d.input.bytes.items) in
    let mid : World = g.W.Outside.world c.answer_line.new.recorder.outside.now in
    let s : Stretch = record {
      name = d.log_name;
      number = length (ended_lines d.input.bytes.items) + 1;
      old = d.debugger;
      new = c.do_command.new.debugger;
      before = g.W.Outside.world c.args.outside.now;
      after = g.W.Outside.world c.do_command.new.self.outside.now;
    } in
    let answered = last-answered (Ok tt) d (record s { new = c.answer_line.new.debugger; after = mid }) _ (take (length bytes - d.input.begun) (drop d.input.begun bytes)) _ c.requires.going (c.new-recorder.ensures.log_name ∙ c.get.ensures)
    (rw c.new-recorder.ensures.outside refl) refl (rw c.deref.ensures.value refl) c.in_ok-answer_line.ensures.answers in
    ends-done c.in_ok-do_command.field-0 s line _ c.answer_line.new.debugger mid _ answered c.in_ok-answer_line.ensures.sound
    (c.in_ok-answer_line.ensures.same_log ∙ c.new-recorder.ensures.log_name ∙ c.get.ensures) (search rules) c.in_ok-do_command.ensures.performs
