-- A worker that is told to pause makes no step.
use Rattle.std.proofs.Common.{subst}
use Rattle.amber_worker.specs.Acting.{paused_at}
use Rattle.amber_worker.specs.Turning.{MakesTurn}
use Rattle.amber_worker.specs.declared.turn.Turn.TheVariants as turn
use Rattle.amber_worker.proofs.Bounds.{few-paused}
use Rattle.amber_worker.proofs.Dealings.{pauses-again, pauses-ended, pauses-now}
use Rattle.amber_worker.proofs.Unchanged.{err_so, same-journal}
use Rattle.amber_worker.proofs.worker.Worker.pause.Goals as goal

pub returns-then-self-clause-ok : goal.returns-then-self-clause-ok
returns-then-self-clause-ok c = subst (λ w. MakesTurn (paused_at w) w turn.Ended) c.self.view_is (pauses-ended _ c.if-self.true)

pub returns-in_ok-reserve-clause-ok : goal.returns-in_ok-reserve-clause-ok
returns-in_ok-reserve-clause-ok c =
    rw (← c.self.view_is, c.push.ensures.items, c.reserve.ensures.items, c.push.ensures.reserved, c.reserve.ensures.reserved)
    (pauses-now _ c.if-self.false c.if-not-self.true)

pub returns-else-not-self-clause-ok : goal.returns-else-not-self-clause-ok
returns-else-not-self-clause-ok c = subst (λ w. MakesTurn (paused_at w) w turn.Paused) c.self.view_is (pauses-again _ c.if-self.false c.if-not-self.false)

pub returns-in_err-reserve-clause-err : goal.returns-in_err-reserve-clause-err
returns-in_err-reserve-clause-err c = err_so c.from_residual.result _ (same-journal _ _ _ _ c.reserve.ensures.items c.reserve.ensures.reserved c.self.view_is)

pub invariant_of-self : goal.invariant_of-self
invariant_of-self c = rw c.reserve.ensures.items c.self.invariant

pub invariant_of-self-then-not-self : goal.invariant_of-self-then-not-self
invariant_of-self-then-not-self c = rw (c.push.ensures.items, c.reserve.ensures.items) (few-paused _ c.self.invariant c.if-self.false)
