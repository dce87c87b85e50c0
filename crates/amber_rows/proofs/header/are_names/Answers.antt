-- A field that is another name, or all that are the names.
use Rattle.std.proofs.Common.{◌≡◌, ◌<◌, ◌≤◌, ◌+◌, ◌&&◌, Bool, false, true, length, get_or, drop, bytes_eq, sym, ap, ◌∙◌, arith}
use Rattle.std.specs.Cmp.Lexicographic.{pointwise}
use Rattle.csv.proofs.RecordFacts.{field-there}
use Rattle.csv.specs.Records.{fields_of}
use Rattle.amber_rows.specs.Columns.{names_of}
use Rattle.amber_rows.proofs.Headers.{names-more, names-end, not_false, not_true}
use Rattle.amber_rows.proofs.header.are_names.Goals as goal

pub returns-in_default : goal.returns-in_default
returns-in_default c = absurd (field-there (fields_of c.args.fields.now) c.loop-i.i (omega arith) (sym c.in_default.ensures.value))

pub returns-then-ne : goal.returns-then-ne
returns-then-ne c =
    let fields = fields_of c.args.fields.now in
    let columns = c.args.schema.now in
    let column = c.index-columns-i.result in
    let i = c.loop-i.i in
    let h : i < length columns = rw c.get-columns.ensures at c.loop-i-test.true in
    let e : column ≡ get_or columns i column = rw c.get-columns.ensures at c.index-columns-i.is in
    let name = c.as_bytes.ensures.value ∙ c.get-in-loop-i.ensures in
    let other : bytes_eq c.in-Some.field.now column.name ≡ false = not_true (bytes_eq c.in-Some.field.now column.name) (rw name at c.if-ne.ensures) in
    let rest = pointwise bytes_eq (drop (i + 1) fields) (drop (i + 1) (names_of columns)) in
    sym (c.loop-i.invariant.left ∙ names-more fields columns i c.in-Some.field.now column h e (sym c.in-Some.ensures.value) ∙ ap (λ (b : Bool). b && rest) other)

pub loop-i-preserved : goal.loop-i-preserved
loop-i-preserved c =
    let fields = fields_of c.args.fields.now in
    let columns = c.args.schema.now in
    let column = c.index-columns-i.result in
    let i = c.loop-i.i in
    let h : i < length columns = rw c.get-columns.ensures at c.loop-i-test.true in
    let e : column ≡ get_or columns i column = rw c.get-columns.ensures at c.index-columns-i.is in
    let name = c.as_bytes.ensures.value ∙ c.get-in-loop-i.ensures in
    let same : bytes_eq c.in-Some.field.now column.name ≡ true = not_false (bytes_eq c.in-Some.field.now column.name) (rw name at c.if-ne.ensures) in
    let rest = pointwise bytes_eq (drop (i + 1) fields) (drop (i + 1) (names_of columns)) in
    record {
      same = c.loop-i.invariant.same;
      left = c.loop-i.invariant.left ∙ names-more fields columns i c.in-Some.field.now column h e (sym c.in-Some.ensures.value) ∙ ap (λ (b : Bool). b && rest) same;
    }

pub returns : goal.returns
returns c =
    let columns = c.args.schema.now in
    let same : length (fields_of c.args.fields.now) ≡ length columns = rw c.get-columns.ensures at c.loop-i.invariant.same in
    let h : length columns ≤ c.loop-i.i = rw c.get-columns.ensures at c.loop-i-test.false in
    sym (c.loop-i.invariant.left ∙ names-end (fields_of c.args.fields.now) columns c.loop-i.i same h)
