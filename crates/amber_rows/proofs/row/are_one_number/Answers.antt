-- The keys are those of the cells.
use Rattle.std.proofs.Common.{◌∙◌, sym}
use Rattle.amber_rows.proofs.Keys.{one_number}
use Rattle.amber_rows.proofs.row.are_one_number.Goals as goal

pub returns : goal.returns
returns c _ =
    one_number c.args.a.now c.args.b.now c.a.inside.key c.b.inside.key (cc (c.a.invariant, c.a.view_is)) (cc (c.b.invariant, c.b.view_is)) c.if-a-b.false (sym c.if-not-tells_number.ensures)
    (sym c.len.ensures ∙ c.if-len-ne1.false) (sym c.len-2.ensures ∙ c.if-len-ne1-2.false)
