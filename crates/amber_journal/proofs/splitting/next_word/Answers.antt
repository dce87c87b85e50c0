-- After the loop the whole text has no such byte.
use Rattle.amber_log.proofs.Pieces.{all_lacks, one_piece}
use Rattle.amber_journal.proofs.splitting.next_word.Goals as goal

pub returns : goal.returns
returns c = one_piece 32 c.args.bytes.now (all_lacks 32 c.args.bytes.now c.loop-place.place c.loop-place-test.false c.loop-place.invariant)
