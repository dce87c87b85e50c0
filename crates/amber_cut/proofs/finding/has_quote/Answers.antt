-- As `memchr` finds it.
use Rattle.amber_cut.proofs.Places.{quote-found}
use Rattle.amber_cut.proofs.finding.has_quote.Goals as goal

pub returns : goal.returns
returns c = rw c.is_some.ensures (quote-found c.args.bytes.now c.memchr.result c.memchr.ensures)
