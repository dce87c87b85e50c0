-- The next operator reads, or it does not and the reader comes after it.
use Rattle.std.proofs.Common.{◌≡◌, ◌∙◌, ◌+◌, ap, sym, drop, []}
use Rattle.std.proofs.lemmas.List.{drop_all}
use Rattle.amber_rows.specs.Topology.{reader_from, reader_of}
use Rattle.amber_rows.proofs.CrewFacts.{reader-here, reader-later, reader-none}
use Rattle.amber_rows.proofs.flow.Flow.reader.Goals as goal

pub returns-then-reads-clause-some : goal.returns-then-reads-clause-some
returns-then-reads-clause-some c =
    let flow = c.get-operators.result.now in
    let here = reader-here flow (c.loop-i.i + 1) c.args.op c.loop-i.i c.index-operators-i.result c.loop-i-test.true c.index-operators-i.is (sym c.reads.ensures ∙ c.if-reads.true) in
    sym (ap (λ ops. reader_of ops c.args.op) (sym c.get-operators.ensures.operators) ∙ c.loop-i.invariant ∙ here)

pub loop-i-preserved : goal.loop-i-preserved
loop-i-preserved c =
    c.loop-i.invariant ∙ reader-later c.get-operators.result.now (c.loop-i.i + 1) c.args.op c.loop-i.i c.index-operators-i.result c.loop-i-test.true c.index-operators-i.is (sym c.reads.ensures ∙ c.if-reads.false)

pub returns-clause-none : goal.returns-clause-none
returns-clause-none c =
    let flow = c.get-operators.result.now in
    let rest : drop c.loop-i.i flow ≡ [] = drop_all c.loop-i.i flow c.loop-i-test.false in
    ap (λ ops. reader_of ops c.args.op) (sym c.get-operators.ensures.operators) ∙ c.loop-i.invariant ∙ ap (λ ops. reader_from (c.loop-i.i + 1) ops c.args.op) rest ∙ reader-none (c.loop-i.i + 1) c.args.op
