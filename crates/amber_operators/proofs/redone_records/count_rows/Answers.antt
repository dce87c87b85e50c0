-- One record more is counted.
use Rattle.std.proofs.Common.{◌≡◌, ◌+◌, ◌-◌, ◌∙◌, ap, arith, false, length, length-append, sym, take}
use Rattle.amber_meaning.specs.Task.{row_in}
use Rattle.amber_scan.specs.declared.share.Scanned.{Scanned}
use Rattle.amber_operators.specs.ManyRows.{yielded_records}
use Rattle.amber_operators.specs.RowsTaken.{gives_if}
use Rattle.amber_operators.specs.declared.operator_state.OperatorState.TheVariants as operator_state
use Rattle.amber_operators.proofs.Yields.{flat-next}
use Rattle.amber_operators.proofs.redone_records.count_rows.Goals as goal

pub loop-i-preserved : goal.loop-i-preserved
loop-i-preserved c =
    let left = c.args.share.now.left in
    let next = flat-next (λ (one : Scanned). gives_if operator_state.Scan false (row_in c.args.columns.now one.what)) left c.loop-i.i c.at.result.now (omega (arith, c.loop-i-test.true, c.requires.there)) (c.at.ensures c.at.result.now) in
    let lengths = ap length next ∙ length-append (yielded_records c.args.columns.now (take c.loop-i.i left)) (gives_if operator_state.Scan false (row_in c.args.columns.now c.at.result.now.what)) in
    let same : c.loop-i.i + 1 - 1 ≡ c.loop-i.i = omega arith in
    record {
      made = omega (arith, lengths, c.loop-i.invariant.made, c.made_of-made.ensures.is);
      small = omega (arith, c.loop-i.invariant.small, c.made_of-made.ensures.one);
      before = c.loop-i.invariant.made ∙ ap (λ n. length (yielded_records c.args.columns.now (take n left))) (sym same);
    }
