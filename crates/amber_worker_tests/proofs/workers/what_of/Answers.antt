-- The operator is looked up by its place.
use Rattle.std.proofs.Common.{◌≡◌, ◌∙◌, ◌-◌, ◌<◌, ℕ, List, get_or, length, ap, arith}
use Rattle.amber_rows.specs.Topology.{crew_of, op_of, what_at}
use Rattle.amber_rows.specs.declared.flow.Operator.{Operator}
use Rattle.amber_rows.proofs.CrewFacts.{kind-there, placed}
use Rattle.amber_worker_tests.proofs.workers.what_of.Goals as goal

-- the kind of a worker's operator, looked up by its place
kind-here : (flow operators : List Operator) (worker op : ℕ) (d : Operator) → worker < crew_of flow → operators ≡ flow → op ≡ op_of flow worker
    → (get_or operators (op - 1) d).what ≡ what_at flow (op_of flow worker)
kind-here flow operators worker op d there same own =
    let at = placed flow worker there in
    ap (λ n. (get_or operators (n - 1) d).what) own ∙ ap (λ (ops : List Operator). (get_or ops (op_of flow worker - 1) d).what) same ∙ kind-there flow (op_of flow worker) d at.some at.within

pub overflow_sub-result : goal.overflow_sub-result
overflow_sub-result c = let at = placed c.args.flow.now c.args.worker c.requires in omega (arith, c.op_of-op.ensures, at.some)

pub bounds-operators-op : goal.bounds-operators-op
bounds-operators-op c =
    let at = placed c.args.flow.now c.args.worker c.requires in
    omega (arith, c.op_of-op.ensures, ap length c.get-operators.ensures.operators, at.some, at.within)

pub returns : goal.returns
returns c = kind-here c.args.flow.now c.get-operators.result.now c.args.worker c.op_of-op.result c.index-operators-op.result c.requires c.get-operators.ensures.operators c.op_of-op.ensures
