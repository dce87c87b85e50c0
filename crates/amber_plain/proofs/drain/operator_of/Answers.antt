-- An operator of a workflow has few columns.
use Rattle.std.proofs.Common.{◌≡◌, ◌<◌, ◌-◌, arith, get_or, length}
use Rattle.amber_meaning.proofs.Operators.{next-here}
use Rattle.amber_plain.proofs.drain.operator_of.Goals as goal

pub returns-clause-few : goal.returns-clause-few
returns-clause-few c =
    let flow = c.args.flow.now in
    let i = c.args.op - 1 in
    let o = c.index-operators-op.result in
    let within : i < length c.get-operators.result.now = omega (arith, c.if-op-eq0.false, c.if-op-operators.false) in
    let h : i < length flow = rw c.get-operators.ensures.operators at within in
    let e : o ≡ get_or flow i o = rw c.get-operators.ensures.operators at c.index-operators-op.is in
    omega (arith, (next-here flow c.get-operators.ensures.flow i o h e).columns.few)
