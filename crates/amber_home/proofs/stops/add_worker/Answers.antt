-- The stop of one worker.
use Rattle.std.proofs.Common.{◌≡◌, sym, ap, ◌∙◌, ◌-◌, List, [], ◌∷◌, ◌++◌, None, Some, append-nil, option_map, rules}
use Rattle.amber_rows.specs.Topology.{first_worker_of, op_of}
use Rattle.amber_rows.specs.declared.flow.Operator.{Operator}
use Rattle.amber_meaning.specs.declared.view.Stop.TheVariants as stop
use Rattle.amber_meaning.proofs.Crews.{op-within, own-worker, worker-within}
use Rattle.amber_dataflow.specs.Dataflow.{row_held_at}
use Rattle.amber_home.proofs.Stopped.{stop-of-none, stop-of-row}
use Rattle.amber_home.proofs.stops.add_worker.Goals as goal

pub returns-in_default : goal.returns-in_default
returns-in_default c =
    let items = c.args.stops.now.items in
    let none : row_held_at c.args.dataflow.now c.args.worker ≡ None = sym c.held_row.ensures ∙ ap (option_map (λ row. row.now)) c.in_default.is in
    sym (append-nil items) ∙ ap (λ stops. items ++ stops) (sym (stop-of-none c.args.dataflow.now c.args.worker none))

pub first_worker-requires-clause-some : goal.first_worker-requires-clause-some
first_worker-requires-clause-some c = rw (c.op_of-op.ensures, c.flow.ensures) (op-within c.args.dataflow.now.flow c.args.worker c.requires.there).0

pub first_worker-requires-clause-there : goal.first_worker-requires-clause-there
first_worker-requires-clause-there c = rw (c.op_of-op.ensures, c.flow.ensures, c.flow-2.ensures) (op-within c.args.dataflow.now.flow c.args.worker c.requires.there).1

pub overflow_sub-worker : goal.overflow_sub-worker
overflow_sub-worker c =
    let flow = c.args.dataflow.now.flow in
    rw (c.first_worker.ensures.first, c.flow-2.ensures, c.op_of-op.ensures, c.flow.ensures)
    (worker-within flow (op_of flow c.args.worker) c.args.worker (own-worker flow c.args.worker c.requires.there)).0

pub returns : goal.returns
returns c =
    let d = c.args.dataflow.now in
    let worker = c.args.worker in
    let items = c.args.stops.now.items in
    let op = c.op_of-op.result in
    let row : row_held_at d worker ≡ Some c.in-Some.row.now = sym c.held_row.ensures ∙ ap (option_map (λ row. row.now)) c.in-Some.is in
    let own : op ≡ op_of d.flow worker = c.op_of-op.ensures ∙ ap (λ (f : List Operator). op_of f worker) c.flow.ensures in
    let first : c.first_worker.result ≡ first_worker_of d.flow (op_of d.flow worker) =
    c.first_worker.ensures.first ∙ ap (λ (f : List Operator). first_worker_of f op) c.flow-2.ensures ∙ ap (first_worker_of d.flow) own in
    let copy : c.in_ok-clone.field-0 ≡ c.in-Some.row.now = c.in_ok-clone.ensures.cases in
    let pushed : c.push.new.self.items ≡ items ++ stop.Held op (worker - c.first_worker.result) c.in_ok-clone.field-0 ∷ [] = search rules in
    pushed
    ∙ (λ i. items ++ stop.Held (own i) (worker - first i) (copy i) ∷ [])
    ∙ ap (λ stops. items ++ stops) (sym (stop-of-row d worker c.in-Some.row.now row))
