-- Each list is empty, and no flag is raised.
use Rattle.std.proofs.Common.{refl}
use Rattle.amber_worker.proofs.worker.Worker.fresh.Goals as goal

pub invariant_of-result : goal.invariant_of-result
invariant_of-result c = rw (c.lowered.ensures, c.new-7.ensures.entries) c.requires.few

pub returns : goal.returns
returns c = rw (c.lowered.ensures, c.new.ensures.items, c.new-2.ensures, c.new-3.ensures.items, c.new-4.ensures.items, c.new-7.ensures.entries, c.new-7.ensures.reserved) refl
