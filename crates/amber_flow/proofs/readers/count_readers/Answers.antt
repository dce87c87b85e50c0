use Rattle.std.proofs.Common.{sym, arith}
use Rattle.amber_flow.proofs.ReaderFacts.{readers-more, readers-none}
use Rattle.amber_flow.proofs.readers.count_readers.Goals as goal

pub loop-operator-init : goal.loop-operator-init
loop-operator-init c = (sym (readers-none c.args.op), omega arith)

pub loop-operator-preserved : goal.loop-operator-preserved
loop-operator-preserved c =
    let more = readers-more c.args.operators.now c.loop-operator.operator-index _ c.args.op c.loop-operator-test.true c.operator-item.is in
    (rw (c.loop-operator.invariant.0, c.count_reads-count.ensures.reads) (sym more), omega arith)
