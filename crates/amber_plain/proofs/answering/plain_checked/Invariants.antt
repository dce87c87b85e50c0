-- The first operators were evaluated.
use Rattle.amber_meaning.specs.Plain.{records_of}
use Rattle.amber_plain.proofs.Evaluated.{Evaluated}
use Rattle.amber_plain.proofs.answering.plain_checked.Given as goal

abbrev pub invariant-loop-i : goal.invariant-loop-i
invariant-loop-i l = Evaluated l.flow (records_of l.files l.flow) l.i l.waiting.items l.tally.told.items l.tally.left l.most
