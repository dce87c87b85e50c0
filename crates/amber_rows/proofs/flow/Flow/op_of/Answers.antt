-- The worker is of the next operator, or of one after it.
use Rattle.std.proofs.Common.{◌≡◌, ◌∙◌, ap, arith, drop, []}
use Rattle.std.proofs.lemmas.List.{drop_all}
use Rattle.amber_rows.specs.Topology.{op_of}
use Rattle.amber_rows.proofs.CrewFacts.{op-here, op-later, op-none}
use Rattle.amber_rows.proofs.flow.Flow.op_of.Goals as goal

pub returns-then-left-operator : goal.returns-then-left-operator
returns-then-left-operator c =
    let here = op-here c.get-operators.result.now c.loop-i.i c.loop-i.left c.index-operators-i.result c.loop-i-test.true c.index-operators-i.is c.if-left-operator.true in
    let all : op_of c.get-operators.result.now c.args.worker ≡ op_of c.args.self.now c.args.worker = ap (λ flow. op_of flow c.args.worker) c.get-operators.ensures.operators in
    omega (arith, here, all, c.loop-i.invariant)

pub loop-i-preserved : goal.loop-i-preserved
loop-i-preserved c =
    let later = op-later c.get-operators.result.now c.loop-i.i c.loop-i.left c.index-operators-i.result c.loop-i-test.true c.index-operators-i.is c.if-left-operator.false in
    omega (arith, later, c.loop-i.invariant)

pub returns : goal.returns
returns c =
    let flow = c.get-operators.result.now in
    let none : drop c.loop-i.i flow ≡ [] = drop_all c.loop-i.i flow c.loop-i-test.false in
    let last : op_of (drop c.loop-i.i flow) c.loop-i.left ≡ 1 = ap (λ rest. op_of rest c.loop-i.left) none ∙ op-none c.loop-i.left in
    let all : op_of flow c.args.worker ≡ op_of c.args.self.now c.args.worker = ap (λ ops. op_of ops c.args.worker) c.get-operators.ensures.operators in
    omega (arith, last, all, c.loop-i.invariant)
