-- A flow has workers, and a turn is left to each where as many steps are.
use Rattle.std.proofs.Common.{◌-◌, ◌/◌, ◌<◌, ◌≤◌, ℕ, sym, subst, ap, ◌∙◌, arith}
use Rattle.std.proofs.Math.Nat.{le-div_iff_mul-le}
use Rattle.amber_rows.specs.Topology.{crew_of}
use Rattle.amber_dataflow.proofs.Answered.{some-crew}
use Rattle.amber_leg.proofs.budget.budget_of.Goals as goal

pub nonzero_div-share : goal.nonzero_div-share
nonzero_div-share c =
    subst (λ n. 0 < n) (sym (c.from.ensures ∙ c.workers.ensures))
    (some-crew c.flow-flow.result.now c.get-operators.ensures.flow)

one-left : (left workers : ℕ) → 0 < workers → workers ≤ left → 1 ≤ left / workers
one-left left workers some enough = (le-div_iff_mul-le some).1 (omega arith)

pub returns-clause-some : goal.returns-clause-some
returns-clause-some c enough =
    let workers = c.from.ensures ∙ c.workers.ensures ∙ ap crew_of c.flow-flow.ensures in
    let some : 0 < c.from.result = subst (λ n. 0 < n) (sym (c.from.ensures ∙ c.workers.ensures)) (some-crew c.flow-flow.result.now c.get-operators.ensures.flow) in
    let share = one-left (c.most.result - c.steps.result) c.from.result some (omega (arith, workers, enough, c.most.ensures.most, c.steps.ensures.steps)) in
    c.cut_to-cut.ensures.some share
