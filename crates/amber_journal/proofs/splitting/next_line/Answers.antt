-- After the loop the whole text has no such byte.
use Rattle.amber_log.proofs.Pieces.{all_lacks}
use Rattle.amber_journal.proofs.Pieces.{no_line}
use Rattle.amber_journal.proofs.splitting.next_line.Goals as goal

pub returns-clause-line : goal.returns-clause-line
returns-clause-line c = no_line c.args.bytes.now (all_lacks 10 c.args.bytes.now c.loop-place.place c.loop-place-test.false c.loop-place.invariant)
