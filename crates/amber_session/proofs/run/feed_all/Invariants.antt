-- So much of the source was fed.
use Rattle.std.proofs.Common.{◌≡◌, ◌+◌, ◌-◌, ℕ, List, cond, length, false}
use Rattle.amber_io.specs.Folder.{IsThere}
use Rattle.amber_recorder.specs.Writing.{NoneFailed}
use Rattle.amber_session.specs.Dialogue.{IsGoing, most_input}
use Rattle.amber_session.specs.Running.{HasFed, IsAllOf}
use Rattle.amber_session.proofs.run.feed_all.Given as goal

abbrev pub invariant-loop-more : goal.invariant-loop-more
invariant-loop-more g l = record {
  fed : (input : List ℕ) × HasFed (record {
    old = l.fn.dialogue;
    new = l.dialogue;
    before = record { world = g.W.Outside.world l.fn.outside; supply = record { left = g.S.Source.left l.fn.source; faults = g.S.Source.faults l.fn.source } };
    after = record { world = g.W.Outside.world l.outside; supply = record { left = g.S.Source.left l.source; faults = g.S.Source.faults l.source } };
  }) input × (l.more ≡ false → IsAllOf input (g.S.Source.left l.fn.source));
  going : IsGoing l.dialogue;
  name : l.dialogue.log_name ≡ l.fn.dialogue.log_name;
  there : IsThere (g.W.Outside.world l.outside).files l.fn.dialogue.log_name;
  faults : g.S.Source.faults l.source ≡ g.S.Source.faults l.fn.source;
  counted : NoneFailed (g.W.Outside.world l.fn.outside) (g.W.Outside.world l.outside);
  held : g.W.Outside.held l.outside ≡ g.W.Outside.held l.fn.outside;
}

abbrev pub decreases-loop-more : goal.decreases-loop-more
decreases-loop-more g l = cond l.more (most_input - length l.dialogue.input.bytes.items + 1) 0
