-- No line feed up to the end.
use Rattle.amber_script.proofs.Pieces.{no_feed}
use Rattle.amber_script.proofs.lines.next_line.Goals as goal

pub returns-clause-line : goal.returns-clause-line
returns-clause-line c = no_feed c.args.bytes.now c.loop-place.place c.loop-place-test.false c.loop-place.invariant
