-- The numbers fit or not, and then the rows pass or not.
use Rattle.std.proofs.Common.{arith, sym}
use Rattle.amber_operators.specs.ReadiedRows.{yielded_to}
use Rattle.amber_operators.specs.Handed.{arrivals_in}
use Rattle.amber_worker.proofs.Judged.{judged, looked-all, same-fits}
use Rattle.amber_worker.proofs.line_judging.may_go.Goals as goal

pub returns-then-not-fits : goal.returns-then-not-fits
returns-then-not-fits c how count columns ready may =
    let before = c.before-2.ensures how c.args.rest.now ready in
    let made = c.made.ensures how c.args.rest.now ready in
    let never = rw c.if-not-fits.true at c.fits.ensures in
    never (same-fits c.args.line _ _ _ _ _ _ (sym c.left.ensures) (omega (arith, before, c.from-had.ensures, c.from.ensures, c.len.ensures)) (omega (arith, made, c.from-had.ensures, c.from-2.ensures, c.len.ensures)) may.fits)

pub returns-then-lets_pending_by : goal.returns-then-lets_pending_by
returns-then-lets_pending_by c how count columns ready =
    let before = c.before-2.ensures how c.args.rest.now ready in
    let made = c.made.ensures how c.args.rest.now ready in
    let fits = rw c.if-not-fits.false at c.fits.ensures in
    judged c.args.line _ c.lets_ready_by.result
    (same-fits c.args.line _ _ _ _ _ _ c.left.ensures (omega (arith, before, c.from-had.ensures, c.from.ensures, c.len.ensures)) (omega (arith, made, c.from-had.ensures, c.from-2.ensures, c.len.ensures)) fits)
    (looked-all c.args.when.now _ c.lets_pending_by.new.gate c.lets_ready_by.new.gate c.args.pending.now (yielded_to how (arrivals_in c.args.rest.now)) c.lets_pending_by.result c.lets_ready_by.result
    c.if-lets_pending_by.true c.lets_pending_by.ensures (λ later. c.lets_ready_by.ensures how later count columns ready))
