-- The bytes up to the place are read, and the lines that they end are answered.
use Rattle.std.proofs.Common.{◌≡◌, ◌+◌, ℕ, List}
use Rattle.amber_io.specs.Folder.{IsThere}
use Rattle.amber_recorder.specs.Writing.{NoneFailed}
use Rattle.amber_session.specs.Answers.{HasAnswered, IsSound}
use Rattle.amber_session.specs.Dialogue.{AreEndedIn, IsReadTo}
use Rattle.amber_session.proofs.reading.read_bytes.Given as goal

abbrev pub invariant-loop-place : goal.invariant-loop-place
invariant-loop-place g l = record {
  bytes : l.input.bytes ≡ l.fn.input.bytes;
  read : IsReadTo l.input l.place;
  lines : (lines : List (List ℕ)) × AreEndedIn (record { text = l.fn.input.bytes.items; from = l.fn.from; to = l.place }) lines × HasAnswered (record {
    name = l.fn.recorder.log_name.now;
    number = l.fn.input.lines + 1;
    old = l.fn.debugger;
    new = l.debugger;
    before = g.W.Outside.world l.fn.recorder.outside.now;
    after = g.W.Outside.world l.recorder.outside.now;
  }) lines;
  sound : IsSound l.debugger;
  there : IsThere (g.W.Outside.world l.recorder.outside.now).files l.fn.recorder.log_name.now;
  counted : NoneFailed (g.W.Outside.world l.fn.recorder.outside.now) (g.W.Outside.world l.recorder.outside.now);
  held : g.W.Outside.held l.recorder.outside.now ≡ g.W.Outside.held l.fn.recorder.outside.now;
  same_outside : l.recorder.outside.ghost_name ≡ l.fn.recorder.outside.ghost_name;
  same_log : l.recorder.log_name.now ≡ l.fn.recorder.log_name.now;
}
