-- Where the keys differ, the rows stand as the keys do.
use Rattle.std.proofs.Common.{◌∙◌}
use Rattle.amber_rows.proofs.Keys.{row_by_key}
use Rattle.amber_rows.proofs.row.RowOrd.cmp.Goals as goal

pub returns-then-self-other : goal.returns-then-self-other
returns-then-self-other c =
    c.cmp.ensures
    ∙ row_by_key c.args.self.now c.args.other.now c.self.inside.key c.other.inside.key (cc (c.self.invariant, c.self.view_is)) (cc (c.other.invariant, c.other.view_is)) c.if-self-other.true
