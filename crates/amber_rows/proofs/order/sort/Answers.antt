-- std's sort leaves rows in order, and only moves them.
use Rattle.amber_rows.proofs.Sorting.{sorted-permutation}
use Rattle.amber_rows.proofs.order.sort.Goals as goal

pub returns : goal.returns
returns c = sorted-permutation c.args.rows.now.items c.sort_unstable.new.self.items c.sort_unstable.ensures.sorted c.sort_unstable.ensures.permutation
