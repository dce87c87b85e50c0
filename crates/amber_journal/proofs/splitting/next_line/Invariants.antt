-- No line feed so far.
use Rattle.std.proofs.Common.{◌≡◌, take, true}
use Rattle.amber_log.proofs.Pieces.{lacks}
use Rattle.amber_journal.proofs.splitting.next_line.Given as goal

abbrev pub invariant-loop-place : goal.invariant-loop-place
invariant-loop-place l = lacks 10 (take l.place l.fn.bytes) ≡ true
