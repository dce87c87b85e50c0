-- The operator of a worker is there.
use Rattle.std.proofs.Common.{◌∙◌, ◌-◌, ap, arith, get_or, length}
use Rattle.amber_rows.specs.Topology.{op_of}
use Rattle.amber_rows.proofs.CrewFacts.{kind-there, placed}
use Rattle.amber_rows.proofs.flow.Flow.kind_of.Goals as goal

pub overflow_sub-result : goal.overflow_sub-result
overflow_sub-result c = let at = placed c.args.self.now c.args.worker c.requires in omega (arith, c.op_of.ensures, at.some)

pub bounds-get-op_of : goal.bounds-get-op_of
bounds-get-op_of c =
    let at = placed c.args.self.now c.args.worker c.requires in
    omega (arith, c.op_of.ensures, ap length c.get.ensures.operators, at.some, at.within)

pub returns : goal.returns
returns c =
    let at = placed c.args.self.now c.args.worker c.requires in
    let one = c.index-get-op_of.result in
    ap (λ op. (get_or c.get.result.now (op - 1) one).what) c.op_of.ensures
    ∙ ap (λ flow. (get_or flow (op_of c.args.self.now c.args.worker - 1) one).what) c.get.ensures.operators
    ∙ kind-there c.args.self.now (op_of c.args.self.now c.args.worker) one at.some at.within
