-- The numbers fit or not, and then the rows pass or not.
use Rattle.std.proofs.Common.{arith}
use Rattle.amber_worker.proofs.Judged.{judged, looked-all, same-fits}
use Rattle.amber_worker.proofs.redone_made.may_close.Goals as goal

pub returns-then-lets_pending_by : goal.returns-then-lets_pending_by
returns-then-lets_pending_by c =
    let fits = rw c.if-not-fits.false at c.fits.ensures in
    judged c.args.line _ c.lets_rows_by.result
    (same-fits c.args.line _ _ _ _ _ _ (λ i. c.args.offering.now.left) (omega (arith, c.from-had.ensures, c.len.ensures)) (omega (arith, c.from-had.ensures, c.len-2.ensures, c.len.ensures)) fits)
    (looked-all c.args.offering.now.when.now _ c.lets_pending_by.new.gate c.lets_rows_by.new.gate c.args.offering.now.pending.now c.args.offering.now.made.now.items c.lets_pending_by.result c.lets_rows_by.result
    c.if-lets_pending_by.true c.lets_pending_by.ensures c.lets_rows_by.ensures)
