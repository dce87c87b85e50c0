-- One row more is looked at.
use Rattle.std.proofs.Common.{◌+◌, ◌++◌, ◌&&◌, ◌∙◌, ap, arith, drop, sym}
use Rattle.amber_operators.specs.ManyRows.{lets_by, passed_by}
use Rattle.amber_operators.proofs.LettingBy.{fates-end, fates-step}
use Rattle.amber_operators.proofs.letting_by.lets_fates_by.Goals as goal

pub returns-then-not-lets_fate_by : goal.returns-then-not-lets_fate_by
returns-then-not-lets_fate_by c later =
    let step = fates-step c.args.when.now c.loop-i.gate c.lets_fate_by.new.self c.args.fates.now c.args.rows.now.items c.loop-i.i c.index-fates-i.result c.index.result.now c.lets_fate_by.result
    c.loop-i-test.true (omega (arith, c.loop-i-test.true, c.requires.there)) c.index-fates-i.is c.index.ensures c.lets_fate_by.ensures later in
    ap (λ b. b && lets_by c.args.when.now c.lets_fate_by.new.self (passed_by (drop (c.loop-i.i + 1) c.args.fates.now) (drop (c.loop-i.i + 1) c.args.rows.now.items) ++ later)) (sym c.if-not-lets_fate_by.true)
    ∙ step ∙ c.loop-i.invariant later

pub loop-i-preserved : goal.loop-i-preserved
loop-i-preserved c later =
    let step = fates-step c.args.when.now c.loop-i.gate c.lets_fate_by.new.self c.args.fates.now c.args.rows.now.items c.loop-i.i c.index-fates-i.result c.index.result.now c.lets_fate_by.result
    c.loop-i-test.true (omega (arith, c.loop-i-test.true, c.requires.there)) c.index-fates-i.is c.index.ensures c.lets_fate_by.ensures later in
    ap (λ b. b && lets_by c.args.when.now c.lets_fate_by.new.self (passed_by (drop (c.loop-i.i + 1) c.args.fates.now) (drop (c.loop-i.i + 1) c.args.rows.now.items) ++ later)) (sym c.if-not-lets_fate_by.false)
    ∙ step ∙ c.loop-i.invariant later

pub returns : goal.returns
returns c later =
    ap (lets_by c.args.when.now c.loop-i.gate) (sym (fates-end c.args.fates.now c.args.rows.now.items c.loop-i.i c.loop-i-test.false later)) ∙ c.loop-i.invariant later
