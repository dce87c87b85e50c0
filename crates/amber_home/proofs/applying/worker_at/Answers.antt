-- The worker is one of the workflow's.
use Rattle.std.proofs.Common.{◌≡◌, ap, ◌∙◌, ◌+◌, ◌<◌, List, arith}
use Rattle.amber_rows.specs.Topology.{crew_of, first_worker_of}
use Rattle.amber_rows.specs.declared.flow.Operator.{Operator}
use Rattle.amber_home.proofs.applying.worker_at.Goals as goal

pub overflow_add-result : goal.overflow_add-result
overflow_add-result c =
    let d = c.args.dataflow.now in
    let inside : first_worker_of d.flow c.args.op + c.args.worker < crew_of d.flow = c.requires.there in
    let first : c.first_worker.result ≡ first_worker_of d.flow c.args.op = c.first_worker.ensures.first ∙ ap (λ (f : List Operator). first_worker_of f c.args.op) c.flow.ensures in
    let few = c.requires.few in
    omega arith
