-- The rows that were gathered, sorted.
use Rattle.std.proofs.Common.{refl}
use Rattle.amber_plain.proofs.evaluator.sorted.Goals as goal

pub returns-clause-new : goal.returns-clause-new
returns-clause-new c = rw (c.unrefused.ensures, c.new-2.ensures, c.new.ensures, c.sort.ensures, c.in_ok-rows.ensures.rows) refl
