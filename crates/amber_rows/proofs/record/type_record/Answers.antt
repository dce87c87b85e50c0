-- Each column adds its cell, or its fault ends the row.
use Rattle.std.proofs.Common.{◌≡◌, ◌≢◌, ◌+◌, ◌∙◌, Ok, Err, length, sym, arith}
use Rattle.csv.specs.Records.{fields_of}
use Rattle.csv.proofs.RecordFacts.{field-there}
use Rattle.amber_rows.specs.Record.{cell_of}
use Rattle.amber_rows.proofs.TypedCells.{row-all, row-go, row-start, row-stop, row-width}
use Rattle.amber_rows.proofs.record.type_record.Goals as goal

pub returns-then-len-columns : goal.returns-then-len-columns
returns-then-len-columns c =
    let other : length (fields_of c.args.fields.now) ≢ length c.args.schema.now = λ e. c.if-len-columns.true (c.len.ensures ∙ e ∙ sym (cc c.get-columns.ensures)) in
    row-width c.args.schema.now (fields_of c.args.fields.now) other

pub loop-i-init : goal.loop-i-init
loop-i-init c =
    let same : length (fields_of c.args.fields.now) ≡ length c.get-columns.result.now = sym c.len.ensures ∙ c.if-len-columns.false in
    rw c.in_ok-cells.ensures.items (row-start c.get-columns.result.now (fields_of c.args.fields.now) same)

pub unreachable-requires : goal.unreachable-requires
unreachable-requires c =
    let same : length (fields_of c.args.fields.now) ≡ length c.get-columns.result.now = sym c.len.ensures ∙ c.if-len-columns.false in
    field-there (fields_of c.args.fields.now) c.loop-i.i (omega arith) (sym c.in_default.ensures.value)

pub returns-in-Err : goal.returns-in-Err
returns-in-Err c =
    let fault : Err c.in-Err.fault ≡ cell_of (c.loop-i.i + 1) c.index-columns-i.result.kind c.in-Some.field.now = cc (c.in_ok-cell.ensures, c.in-Err.is) in
    rw (← c.get-columns.ensures) (row-stop c.get-columns.result.now (fields_of c.args.fields.now) c.loop-i.i _ c.loop-i.cells.items c.index-columns-i.result c.in-Some.field.now c.in-Err.fault
    c.loop-i.invariant c.loop-i-test.true c.index-columns-i.is c.in-Some.ensures.value fault)

pub loop-i-preserved : goal.loop-i-preserved
loop-i-preserved c =
    let cell : Ok c.in-Ok.cell ≡ cell_of (c.loop-i.i + 1) c.index-columns-i.result.kind c.in-Some.field.now = cc (c.in_ok-cell.ensures, c.in-Ok.is) in
    rw c.in_ok-push-in-Ok.ensures.items (row-go c.get-columns.result.now (fields_of c.args.fields.now) c.loop-i.i _ c.loop-i.cells.items c.index-columns-i.result c.in-Some.field.now c.in-Ok.cell
    c.loop-i.invariant c.loop-i-test.true c.index-columns-i.is c.in-Some.ensures.value cell)

pub returns : goal.returns
returns c =
    rw (c.new.ensures, ← c.get-columns.ensures) (row-all c.get-columns.result.now (fields_of c.args.fields.now) c.loop-i.i _ c.loop-i.cells.items c.loop-i.invariant (omega arith))
