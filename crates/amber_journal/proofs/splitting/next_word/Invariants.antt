-- No space so far.
use Rattle.std.proofs.Common.{◌≡◌, take, true}
use Rattle.amber_log.proofs.Pieces.{lacks}
use Rattle.amber_journal.proofs.splitting.next_word.Given as goal

abbrev pub invariant-loop-place : goal.invariant-loop-place
invariant-loop-place l = lacks 32 (take l.place l.fn.bytes) ≡ true
