-- The operators before this one have no more workers than all have.
use Rattle.std.proofs.Common.{◌≡◌, ◌∙◌, ◌-◌, ap, arith, take}
use Rattle.amber_rows.specs.Topology.{crew_of, first_worker_of}
use Rattle.amber_rows.proofs.CrewFacts.{crew-take}
use Rattle.amber_rows.proofs.flow.Flow.first_worker.Goals as goal

pub workers_in-requires : goal.workers_in-requires
unfolding crew_of
workers_in-requires c =
    let few = c.get.ensures.flow.few_workers in
    let all : crew_of c.get.result.now ≡ crew_of c.args.self.now = ap crew_of c.get.ensures.operators in
    let part = crew-take (c.args.op - 1) c.get.result.now in
    omega (arith, few, all, part)

pub returns-clause-first : goal.returns-clause-first
unfolding first_worker_of
returns-clause-first c = c.workers_in.ensures ∙ ap (λ flow. crew_of (take (c.args.op - 1) flow)) c.get.ensures.operators

pub returns-clause-few : goal.returns-clause-few
unfolding crew_of
returns-clause-few c =
    let few = c.get.ensures.flow.few_workers in
    let all : crew_of c.get.result.now ≡ crew_of c.args.self.now = ap crew_of c.get.ensures.operators in
    let part = crew-take (c.args.op - 1) c.get.result.now in
    omega (arith, few, all, part, c.workers_in.ensures)
