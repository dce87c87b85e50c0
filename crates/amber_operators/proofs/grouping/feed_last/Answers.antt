-- The rows that are pending too are those of the groups.
use Rattle.std.proofs.lemmas.Result.{on_ok_weaker}
use Rattle.amber_operators.proofs.grouping.feed_last.Goals as goal

pub returns-clause-ok : goal.returns-clause-ok
returns-clause-ok c =
    on_ok_weaker c.feed_last.result (λ groups. record { last = groups.0; closes = groups.2; pending_so = groups.1 }) c.feed_last.ensures.groups
