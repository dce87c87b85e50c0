-- A byte more is read, and after all of them the text.
use Rattle.std.proofs.Common.{◌≡◌, ◌+◌, ◌≤◌, ◌∙◌, [], Err, length, refl, arith, rules}
use Rattle.amber_session.specs.Answers.{Stretch}
use Rattle.amber_session.proofs.Answered.{answers-none}
use Rattle.amber_session.proofs.Bytewise.{next-number, reads-end, reads-on, spans-none}
use Rattle.amber_session.proofs.reading.read_bytes.Goals as goal

pub loop-place-init : goal.loop-place-init
loop-place-init g c = record {
  bytes = refl;
  read = c.requires.read;
  lines = ([], spans-none c.args.input.now.bytes.items c.args.from, answers-none _ refl refl);
  sound = c.requires.sound;
  there = c.requires.there;
  counted = (refl, refl, refl);
  held = refl;
  same_outside = refl;
  same_log = refl;
}

pub loop-place-preserved : goal.loop-place-preserved
loop-place-preserved g c =
    let sofar = c.loop-place.invariant in
    let done = c.in_ok-read_byte.ensures in
    let s : Stretch = record {
      name = c.args.recorder.now.log_name.now;
      number = c.args.input.now.lines + 1;
      old = c.args.debugger.now;
      new = c.read_byte.new.debugger;
      before = g.W.Outside.world c.args.recorder.now.outside.now;
      after = g.W.Outside.world c.read_byte.new.recorder.outside.now;
    } in
    let number = next-number c.args.input.now c.loop-place.input c.args.from c.loop-place.place (c.args.input.now.lines + 1) sofar.lines.0 sofar.bytes c.requires.read sofar.read
    sofar.lines.1 refl in
    record {
      bytes = done.bytes ∙ sofar.bytes;
      read = done.read;
      lines = reads-on s c.loop-place.debugger (g.W.Outside.world c.loop-place.recorder.outside.now) c.args.input.now.bytes.items c.args.from c.loop-place.place
          (c.loop-place.input.lines + 1) sofar.lines.0 number sofar.lines.1 sofar.lines.2 (rw (sofar.same_log, sofar.bytes) at done.reads);
      sound = done.sound;
      there = rw sofar.same_log at done.there;
      counted = (done.counted.0 ∙ sofar.counted.0, done.counted.1 ∙ sofar.counted.1, done.counted.2 ∙ sofar.counted.2);
      held = done.held ∙ sofar.held;
      same_outside = done.same_outside ∙ sofar.same_outside;
      same_log = done.same_log ∙ sofar.same_log;
    }

pub returns-in_err-read_byte-clause-reads : goal.returns-in_err-read_byte-clause-reads
returns-in_err-read_byte-clause-reads g c =
    let sofar = c.loop-place.invariant in
    let e : c.from_residual.result ≡ Err c.in_err-read_byte.field-0.0 = search rules in
    let s : Stretch = record {
      name = c.args.recorder.now.log_name.now;
      number = c.args.input.now.lines + 1;
      old = c.args.debugger.now;
      new = c.read_byte.new.debugger;
      before = g.W.Outside.world c.args.recorder.now.outside.now;
      after = g.W.Outside.world c.read_byte.new.recorder.outside.now;
    } in
    let number = next-number c.args.input.now c.loop-place.input c.args.from c.loop-place.place (c.args.input.now.lines + 1) sofar.lines.0 sofar.bytes c.requires.read sofar.read
    sofar.lines.1 refl in
    rw e (reads-end c.in_err-read_byte.field-0.0 s c.loop-place.debugger (g.W.Outside.world c.loop-place.recorder.outside.now) c.args.input.now.bytes.items c.args.from c.loop-place.place
    (c.loop-place.input.lines + 1) sofar.lines.0 number sofar.lines.1 sofar.lines.2 (rw (sofar.same_log, sofar.bytes) at c.in_err-read_byte.ensures.reads))

pub returns-clause-reads : goal.returns-clause-reads
returns-clause-reads g c =
    let sofar = c.loop-place.invariant in
    let within : c.loop-place.place ≤ length c.args.input.now.bytes.items = rw sofar.bytes at sofar.read.within in
    let whole : c.loop-place.place ≡ length c.args.input.now.bytes.items = omega (arith, c.loop-place-test.false) in
    (sofar.lines.0, rw whole at sofar.lines.1, sofar.lines.2)
