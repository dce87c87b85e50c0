-- Units are dealt with, and the next row holds the worker, where it has one.
use Rattle.std.proofs.Common.{refl, sym}
use Rattle.amber_worker.proofs.Bounds.{few-dealt, few-written}
use Rattle.amber_worker.proofs.Dealings.{holds-dealing, starves-dealing}
use Rattle.amber_worker.proofs.Unchanged.{err_so, same-journal}
use Rattle.amber_worker.proofs.worker.Worker.hold.Goals as goal

pub invariant_of-self : goal.invariant_of-self
invariant_of-self c = rw c.reserve.ensures.items c.self.invariant

pub invariant_of-self-then-is_starved : goal.invariant_of-self-then-is_starved
invariant_of-self-then-is_starved c = few-dealt _ c.args.how _ _ c.deal.ensures.deals c.reserve.ensures.items c.self.invariant

pub invariant_of-self-2 : goal.invariant_of-self-2
invariant_of-self-2 c =
    rw c.push.ensures.items (few-written _ _ refl (few-dealt _ c.args.how _ _ c.deal.ensures.deals c.reserve.ensures.items c.self.invariant))

pub returns-in_err-reserve-clause-err : goal.returns-in_err-reserve-clause-err
returns-in_err-reserve-clause-err c = err_so c.from_residual.result _ (same-journal _ _ _ _ c.reserve.ensures.items c.reserve.ensures.reserved c.self.view_is)

pub returns-then-is_starved-clause-ok : goal.returns-then-is_starved-clause-ok
returns-then-is_starved-clause-ok c =
    let free = rw (← c.self.view_is) at c.requires.free in
    let some = rw (← c.self.view_is) at c.requires.some in
    rw (← c.self.view_is, c.deal.ensures.reserved, c.reserve.ensures.reserved)
    (starves-dealing c.args.how _ _ refl (rw c.reserve.ensures.items at c.deal.ensures.deals) free some (sym c.if-is_starved.ensures))

pub returns-clause-ok : goal.returns-clause-ok
returns-clause-ok c =
    let free = rw (← c.self.view_is) at c.requires.free in
    let some = rw (← c.self.view_is) at c.requires.some in
    let must = rw (← c.self.view_is) at c.requires.must in
    rw (← c.self.view_is, c.push.ensures.items, c.push.ensures.reserved, c.deal.ensures.reserved, c.reserve.ensures.reserved)
    (holds-dealing c.args.how _ _ refl (rw c.reserve.ensures.items at c.deal.ensures.deals) free some must (sym c.if-is_starved.ensures))
