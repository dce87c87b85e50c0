-- Field by field; the width is known at the end.
use Rattle.std.proofs.Common.{◌≡◌, ◌≢◌, ◌<◌, ◌∙◌, ◌+◌, ◌-◌, ◌∷◌, [], Some, drop, length, length-drop, take, sym, ap, arith, refl, inl, inr}
use Rattle.std.proofs.lemmas.Bool.Decides.{eqb_tells}
use Rattle.std.proofs.lemmas.List.{drop-drop, length-set, take_all, take_more_set}
use Rattle.csv.specs.Records.{field_at}
use Rattle.amber_rows.proofs.TypedCells.{row-all, row-go, row-stop, row-width}
use Rattle.amber_cut.specs.Lines.{cut}
use Rattle.amber_cut.specs.Typing.{fields_if}
use Rattle.amber_cut.proofs.TypedLines.{cut-some, field-here, none-so-far, row-same}
use Rattle.amber_cut.proofs.typing.retype_line.Goals as goal

pub columns-init : goal.columns-init
columns-init c = record {
  typed = none-so-far _;
  whole = c.requires.cells ∙ ap length (sym c.get-columns.ensures);
  rest = refl;
  passed = omega arith;
}

pub columns-preserved : goal.columns-preserved
columns-preserved c =
    let fields = cut c.args.line.now in
    let i = c.columns.i in
    let inv = c.columns.invariant in
    let field = c.next_field-comma.result.0.now in
    let more = fields_if c.next_field-comma.result.2 c.next_field-comma.result.1.now in
    let here = rw c.if-not-more.false at inv.rest in
    let parts : drop i fields ≡ field ∷ more = here ∙ c.next_field-comma.ensures in
    let tail : drop (i + 1) fields ≡ more = sym (drop-drop 1 i fields) ∙ ap (drop 1) parts in
    let there : Some field ≡ field_at fields i = field-here fields more i field parts in
    let cells = c.columns.cells.items in
    let put = rw c.in-Ok.is at c.in_ok-put_cell.ensures in
    let cell = c.put_cell.new.place in
    let within : i < length cells = omega (arith, inv.whole, c.columns-test.true) in
    record {
      typed = rw (take_more_set cells i cell within) (row-go c.get-columns.result.now fields i _ (take i cells) c.index-columns-i.result field cell
          inv.typed c.columns-test.true c.index-columns-i.is there (sym put));
      whole = length-set cells i cell ∙ inv.whole;
      rest = tail;
      passed = omega (arith, length-drop i fields, ap length parts);
    }

pub returns-then-not-more : goal.returns-then-not-more
returns-then-not-more c =
    let fields = cut c.args.line.now in
    let none : drop c.columns.i fields ≡ [] = rw c.if-not-more.true at c.columns.invariant.rest in
    let other : length fields ≢ length c.args.schema.now = λ e. omega (arith, length-drop c.columns.i fields, ap length none, c.columns-test.true, ap length c.get-columns.ensures, e) in
    row-width c.args.schema.now fields other

pub returns-then-more : goal.returns-then-more
returns-then-more c =
    let fields = cut c.args.line.now in
    let some : drop c.columns.i fields ≡ cut c.columns.rest.now = rw c.if-more.true at c.columns.invariant.rest in
    let other : length fields ≢ length c.args.schema.now = λ e. omega (arith, length-drop c.columns.i fields, ap length some, cut-some c.columns.rest.now, c.columns-test.false, ap length c.get-columns.ensures, e) in
    row-width c.args.schema.now fields other

pub returns-in-Err : goal.returns-in-Err
returns-in-Err c =
    let columns = c.get-columns.result.now in
    let fields = cut c.args.line.now in
    let i = c.columns.i in
    let inv = c.columns.invariant in
    let field = c.next_field-comma.result.0.now in
    let more = fields_if c.next_field-comma.result.2 c.next_field-comma.result.1.now in
    let here = rw c.if-not-more.false at inv.rest in
    let parts : drop i fields ≡ field ∷ more = here ∙ c.next_field-comma.ensures in
    let there : Some field ≡ field_at fields i = field-here fields more i field parts in
    let put = rw c.in-Err.is at c.in_ok-put_cell.ensures in
    let stops = row-stop columns fields i _ (take i c.columns.cells.items) c.index-columns-i.result field c.in-Err.why inv.typed c.columns-test.true c.index-columns-i.is there (sym put) in
    let long : length fields ≡ i + 1 + length more = omega (arith, length-drop i fields, ap length parts) in
    rw (← c.get-columns.ensures) (elim (eqb_tells (length more) (length columns - i - 1)) [
      | inl same ↦ rw (c.fault_of.ensures.same same.1) (stops ∙ sym (row-same columns fields (omega (arith, long, same.1, c.columns-test.true))))
      | inr other ↦ let apart = other.1 in rw (c.fault_of.ensures.width apart) (row-width columns fields (λ e. apart (omega (arith, long, e))))
    ])

pub returns : goal.returns
returns c =
    let fields = cut c.args.line.now in
    let none : drop c.columns.i fields ≡ [] = rw c.if-more.false at c.columns.invariant.rest in
    let same : length fields ≡ length c.get-columns.result.now = omega (arith, length-drop c.columns.i fields, ap length none, c.columns-test.false, c.columns.auto.i-end, c.columns.invariant.passed) in
    let typed = c.columns.invariant.typed in
    let all = row-all c.get-columns.result.now fields c.columns.i _ (take c.columns.i c.columns.cells.items) typed (omega (arith, c.columns-test.false)) in
    let whole = take_all c.columns.i c.columns.cells.items (omega (arith, c.columns.invariant.whole, c.columns-test.false)) in
    rw (c.new.ensures, ← c.get-columns.ensures, ← whole) (all ∙ sym (row-same c.get-columns.result.now fields same))
