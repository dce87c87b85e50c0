-- It is one of the operator's workers.
use Rattle.std.proofs.Common.{◌+◌, ◌%◌, ◌<◌, sym, subst, arith}
use Rattle.amber_rows.specs.Topology.{crew_of, first_worker_of, worker_count}
use Rattle.amber_meaning.proofs.Crews.{place-worker, worker-known}
use Rattle.amber_home.proofs.feeding.worker_in_turn.Goals as goal

pub returns-clause-there : goal.returns-clause-there
returns-clause-there c =
    let flow = c.args.flow.now in
    let op = c.args.op in
    let place = c.args.round % c.from.result in
    let same = c.from.ensures in
    let count = c.worker_count.ensures.count in
    let some = c.worker_count.ensures.some in
    let less : place < worker_count flow op = omega arith in
    subst (λ first. first + place < crew_of flow) (sym c.first_worker.ensures.first)
    (worker-known flow op (first_worker_of flow op + place) (place-worker flow op place less))
