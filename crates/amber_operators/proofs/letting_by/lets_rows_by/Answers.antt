-- One row more is looked at.
use Rattle.std.proofs.Common.{◌+◌, ◌++◌, ◌&&◌, ◌∙◌, ap, arith, drop, sym}
use Rattle.amber_operators.specs.ManyRows.{lets_by}
use Rattle.amber_operators.proofs.LettingBy.{rows-step}
use Rattle.amber_operators.proofs.letting_by.lets_rows_by.Goals as goal

pub returns-then-not-lets_by : goal.returns-then-not-lets_by
returns-then-not-lets_by c later =
    let step = rows-step c.args.when.now c.loop-i.gate c.lets_by.new.self c.args.rows.now.items c.loop-i.i c.index.result.now c.lets_by.result (omega (arith, c.loop-i-test.true, c.len-i-end.ensures, c.args.rows.now.ok.0))
    c.index.ensures c.lets_by.ensures later in
    ap (λ b. b && lets_by c.args.when.now c.lets_by.new.self (drop (c.loop-i.i + 1) c.args.rows.now.items ++ later)) (sym c.if-not-lets_by.true) ∙ step ∙ c.loop-i.invariant later

pub loop-i-preserved : goal.loop-i-preserved
loop-i-preserved c later =
    let step = rows-step c.args.when.now c.loop-i.gate c.lets_by.new.self c.args.rows.now.items c.loop-i.i c.index.result.now c.lets_by.result (omega (arith, c.loop-i-test.true, c.len-i-end.ensures, c.args.rows.now.ok.0))
    c.index.ensures c.lets_by.ensures later in
    ap (λ b. b && lets_by c.args.when.now c.lets_by.new.self (drop (c.loop-i.i + 1) c.args.rows.now.items ++ later)) (sym c.if-not-lets_by.false) ∙ step ∙ c.loop-i.invariant later
