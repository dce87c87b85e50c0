-- Units are dealt with, and that is all.
use Rattle.std.proofs.Common.{refl}
use Rattle.amber_worker.proofs.Bounds.{few-dealt}
use Rattle.amber_worker.proofs.Dealt.{deals-at}
use Rattle.amber_worker.proofs.Unchanged.{err_so, same-journal}
use Rattle.amber_worker.proofs.worker.Worker.deal_with.Goals as goal

pub invariant_of-self : goal.invariant_of-self
invariant_of-self c = rw c.reserve.ensures.items c.self.invariant

pub invariant_of-self-2 : goal.invariant_of-self-2
invariant_of-self-2 c = few-dealt _ c.args.how _ _ c.deal.ensures.deals c.reserve.ensures.items c.self.invariant

pub returns-in_err-reserve-clause-err : goal.returns-in_err-reserve-clause-err
returns-in_err-reserve-clause-err c = err_so c.from_residual.result _ (same-journal _ _ _ _ c.reserve.ensures.items c.reserve.ensures.reserved c.self.view_is)

pub returns-clause-ok : goal.returns-clause-ok
returns-clause-ok c =
    rw (← c.self.view_is, c.deal.ensures.reserved, c.reserve.ensures.reserved)
    (deals-at c.args.how _ _ refl (rw c.reserve.ensures.items at c.deal.ensures.deals))
