-- Each column puts its cell in its place, or its fault ends the row.
use Rattle.std.proofs.Common.{◌≡◌, ◌<◌, ◌∙◌, length, take, sym, ap, arith}
use Rattle.std.proofs.lemmas.List.{length-set, take_all, take_more_set}
use Rattle.csv.specs.Records.{fields_of}
use Rattle.csv.proofs.RecordFacts.{field-there}
use Rattle.amber_rows.proofs.TypedCells.{row-all, row-go, row-start, row-stop}
use Rattle.amber_rows.proofs.reused_rows.retype.Goals as goal

pub loop-i-init : goal.loop-i-init
loop-i-init c =
    let same : length (fields_of c.args.fields.now) ≡ length c.get-columns.result.now = c.requires.fields ∙ ap length (sym c.get-columns.ensures) in
    record {
      typed = row-start c.get-columns.result.now (fields_of c.args.fields.now) same;
      whole = c.requires.cells ∙ ap length (sym c.get-columns.ensures);
    }

pub unreachable-requires : goal.unreachable-requires
unreachable-requires c =
    let same : length (fields_of c.args.fields.now) ≡ length c.get-columns.result.now = c.requires.fields ∙ ap length (sym c.get-columns.ensures) in
    field-there (fields_of c.args.fields.now) c.loop-i.i (omega arith) (sym c.in_default.ensures.value)

pub returns-in-Err : goal.returns-in-Err
returns-in-Err c =
    let put = rw c.in-Err.is at c.in_ok-put_cell.ensures in
    rw (← c.get-columns.ensures) (row-stop c.get-columns.result.now (fields_of c.args.fields.now) c.loop-i.i _ (take c.loop-i.i c.loop-i.cells.items) c.index-columns-i.result c.in-Some.field.now c.in-Err.fault
    c.loop-i.invariant.typed c.loop-i-test.true c.index-columns-i.is c.in-Some.ensures.value (sym put))

pub loop-i-preserved : goal.loop-i-preserved
loop-i-preserved c =
    let put = rw c.in-Ok.is at c.in_ok-put_cell.ensures in
    let cell = c.put_cell.new.place in
    let cells = c.loop-i.cells.items in
    let i = c.loop-i.i in
    let within : i < length cells = omega (arith, c.loop-i.invariant.whole, c.loop-i-test.true) in
    record {
      typed = rw (take_more_set cells i cell within) (row-go c.get-columns.result.now (fields_of c.args.fields.now) i _ (take i cells) c.index-columns-i.result c.in-Some.field.now cell
          c.loop-i.invariant.typed c.loop-i-test.true c.index-columns-i.is c.in-Some.ensures.value (sym put));
      whole = length-set cells i cell ∙ c.loop-i.invariant.whole;
    }

pub returns : goal.returns
returns c =
    let all = row-all c.get-columns.result.now (fields_of c.args.fields.now) c.loop-i.i _ (take c.loop-i.i c.loop-i.cells.items) c.loop-i.invariant.typed (omega arith) in
    let whole = take_all c.loop-i.i c.loop-i.cells.items (omega (arith, c.loop-i.invariant.whole)) in
    rw (c.new.ensures, ← c.get-columns.ensures, ← whole) all
