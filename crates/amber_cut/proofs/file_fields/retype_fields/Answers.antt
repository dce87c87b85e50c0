-- Each column puts its cell in its place, or its fault ends the row.
use Rattle.std.proofs.Common.{◌≡◌, ◌<◌, ◌≤◌, ◌+◌, ◌∙◌, Some, ap, arith, drop, length, sym, take}
use Rattle.std.proofs.lemmas.List.{length-set, take_all, take_more_set}
use Rattle.csv.specs.Records.{field_at, fields_of}
use Rattle.csv.proofs.RecordFacts.{field-there}
use Rattle.amber_rows.proofs.TypedCells.{row-all, row-go, row-start, row-stop}
use Rattle.amber_cut.proofs.PieceFacts.{field-piece, length-piece}
use Rattle.amber_cut.proofs.file_fields.retype_fields.Goals as goal

pub columns-init : goal.columns-init
columns-init c =
    let columns = c.get-columns.result.now in
    let store = fields_of c.args.store.now in
    let within : c.args.start + length columns ≤ length store = omega (arith, c.requires.fields, c.requires.within, ap length c.get-columns.ensures) in
    record {
      typed = row-start columns (take (length columns) (drop c.args.start store)) (length-piece c.args.start (length columns) store within);
      whole = c.requires.cells ∙ ap length (sym c.get-columns.ensures);
    }

pub overflow_add-start : goal.overflow_add-start
overflow_add-start c = omega (arith, c.requires.fields, c.ranges.end.fits, c.columns-test.true, ap length c.get-columns.ensures)

pub unreachable-requires : goal.unreachable-requires
unreachable-requires c =
    let there : c.args.start + c.columns.i < length (fields_of c.args.store.now) = omega (arith, c.requires.fields, c.requires.within, c.columns-test.true, ap length c.get-columns.ensures) in
    field-there (fields_of c.args.store.now) (c.args.start + c.columns.i) there (sym c.in_default.ensures.value)

pub returns-in-Err : goal.returns-in-Err
returns-in-Err c =
    let columns = c.get-columns.result.now in
    let store = fields_of c.args.store.now in
    let i = c.columns.i in
    let fields = take (length columns) (drop c.args.start store) in
    let there : Some c.in-Some.field.now ≡ field_at fields i = c.in-Some.ensures.value ∙ sym (field-piece c.args.start (length columns) store i c.columns-test.true) in
    let put = rw c.in-Err.is at c.in_ok-put_cell.ensures in
    rw (← c.get-columns.ensures) (row-stop columns fields i _ (take i c.columns.cells.items) c.index-columns-i.result c.in-Some.field.now c.in-Err.fault
    c.columns.invariant.typed c.columns-test.true c.index-columns-i.is there (sym put))

pub columns-preserved : goal.columns-preserved
columns-preserved c =
    let columns = c.get-columns.result.now in
    let store = fields_of c.args.store.now in
    let i = c.columns.i in
    let fields = take (length columns) (drop c.args.start store) in
    let there : Some c.in-Some.field.now ≡ field_at fields i = c.in-Some.ensures.value ∙ sym (field-piece c.args.start (length columns) store i c.columns-test.true) in
    let put = rw c.in-Ok.is at c.in_ok-put_cell.ensures in
    let cell = c.put_cell.new.place in
    let cells = c.columns.cells.items in
    let within : i < length cells = omega (arith, c.columns.invariant.whole, c.columns-test.true) in
    record {
      typed = rw (take_more_set cells i cell within) (row-go columns fields i _ (take i cells) c.index-columns-i.result c.in-Some.field.now cell
          c.columns.invariant.typed c.columns-test.true c.index-columns-i.is there (sym put));
      whole = length-set cells i cell ∙ c.columns.invariant.whole;
    }

pub returns : goal.returns
returns c =
    let columns = c.get-columns.result.now in
    let fields = take (length columns) (drop c.args.start (fields_of c.args.store.now)) in
    let all = row-all columns fields c.columns.i _ (take c.columns.i c.columns.cells.items) c.columns.invariant.typed (omega arith) in
    let whole = take_all c.columns.i c.columns.cells.items (omega (arith, c.columns.invariant.whole)) in
    rw (c.new.ensures, ← c.get-columns.ensures, ← whole) all
