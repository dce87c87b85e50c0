-- An operator has 1 to 16 workers.
use Rattle.std.proofs.Common.{◌-◌, ap, sym, subst, arith, length, []}
use Rattle.amber_rows.specs.FlowRules.{AreNext}
use Rattle.amber_rows.proofs.FlowFacts.{AreNext-at}
use Rattle.amber_rows.proofs.flow.Flow.worker_count.Goals as goal

pub returns-clause-some : goal.returns-clause-some
returns-clause-some c =
    let next = AreNext-at [] c.get.result.now (c.args.op - 1) c.index-get-op.result (omega (arith, ap length c.get.ensures.operators, c.requires.some, c.requires.there))
    (subst (λ flow. AreNext [] flow) (sym c.get.ensures.operators) c.get.ensures.flow.operators) in
    next.some_workers

pub returns-clause-few : goal.returns-clause-few
returns-clause-few c =
    let next = AreNext-at [] c.get.result.now (c.args.op - 1) c.index-get-op.result (omega (arith, ap length c.get.ensures.operators, c.requires.some, c.requires.there))
    (subst (λ flow. AreNext [] flow) (sym c.get.ensures.operators) c.get.ensures.flow.operators) in
    next.few_workers
