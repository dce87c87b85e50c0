-- One record more is looked at.
use Rattle.std.proofs.Common.{◌+◌, ◌++◌, ◌&&◌, ◌∙◌, ap, arith, drop, false, sym, take}
use Rattle.std.proofs.lemmas.List.{get_or-take, length-take-le}
use Rattle.amber_meaning.specs.Task.{row_in}
use Rattle.amber_scan.specs.declared.share.Scanned.{Scanned}
use Rattle.amber_operators.specs.ManyRows.{lets_by, yielded_records}
use Rattle.amber_operators.specs.RowsTaken.{gives_if}
use Rattle.amber_operators.specs.declared.operator_state.OperatorState.TheVariants as operator_state
use Rattle.amber_operators.proofs.Yields.{items-step}
use Rattle.amber_operators.proofs.redone_records.lets_records_by.Goals as goal

pub returns-then-not-lets_record_by : goal.returns-then-not-lets_record_by
returns-then-not-lets_record_by c later =
    let all = take c.args.count c.args.share.now.left in
    let len = length-take-le c.args.count c.args.share.now.left c.requires.there in
    let is = c.at.ensures c.at.result.now ∙ sym (get_or-take c.args.count c.args.share.now.left c.loop-i.i c.at.result.now c.loop-i-test.true) in
    let step = items-step (λ (one : Scanned). gives_if operator_state.Scan false (row_in c.args.columns.now one.what)) c.args.when.now c.loop-i.gate c.lets_record_by.new.gate all c.loop-i.i c.at.result.now
    c.lets_record_by.result (omega (arith, len, c.loop-i-test.true)) is c.lets_record_by.ensures later in
    ap (λ b. b && lets_by c.args.when.now c.lets_record_by.new.gate (yielded_records c.args.columns.now (drop (c.loop-i.i + 1) all) ++ later)) (sym c.if-not-lets_record_by.true) ∙ step ∙ c.loop-i.invariant later

pub loop-i-preserved : goal.loop-i-preserved
loop-i-preserved c later =
    let all = take c.args.count c.args.share.now.left in
    let len = length-take-le c.args.count c.args.share.now.left c.requires.there in
    let is = c.at.ensures c.at.result.now ∙ sym (get_or-take c.args.count c.args.share.now.left c.loop-i.i c.at.result.now c.loop-i-test.true) in
    let step = items-step (λ (one : Scanned). gives_if operator_state.Scan false (row_in c.args.columns.now one.what)) c.args.when.now c.loop-i.gate c.lets_record_by.new.gate all c.loop-i.i c.at.result.now
    c.lets_record_by.result (omega (arith, len, c.loop-i-test.true)) is c.lets_record_by.ensures later in
    ap (λ b. b && lets_by c.args.when.now c.lets_record_by.new.gate (yielded_records c.args.columns.now (drop (c.loop-i.i + 1) all) ++ later)) (sym c.if-not-lets_record_by.false) ∙ step ∙ c.loop-i.invariant later
