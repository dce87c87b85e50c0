-- All cells before the next one fit.
use Rattle.std.proofs.Common.{◌≡◌, ◌<◌, ◌≤◌, ◌∙◌, ◌+◌, ◌&&◌, ap, sym, length, drop, true, false}
use Rattle.amber_rows.specs.Columns.{kind_of}
use Rattle.amber_rows.specs.Suits.{same_kind, suits_of}
use Rattle.amber_rows.proofs.SuitsFacts.{suits-end, suits-next, suits-width}
use Rattle.amber_rows.proofs.schema_match.suits.Goals as goal

pub returns-then-cells-columns : goal.returns-then-cells-columns
returns-then-cells-columns c = rw (← c.get-columns.ensures, ← c.get-cells.ensures) (sym (suits-width _ _ c.if-cells-columns.true))

pub returns-then-not-fits : goal.returns-then-not-fits
returns-then-not-fits c =
    let inside : c.loop-i.i < length c.get-cells.result.now = rw c.if-cells-columns.false c.loop-i-test.true in
    let next = suits-next c.get-columns.result.now c.get-cells.result.now c.loop-i.i c.index-columns-i.result c.index-cells-i.result c.loop-i-test.true inside c.index-columns-i.is c.index-cells-i.is in
    let wrong : same_kind c.index-columns-i.result.kind (kind_of c.index-cells-i.result) ≡ false = sym c.takes-fits.ensures ∙ c.if-not-fits.true in
    let stops : false ≡ suits_of (drop c.loop-i.i c.get-columns.result.now) (drop c.loop-i.i c.get-cells.result.now) = sym (next ∙ ap (λ b. b && suits_of (drop (c.loop-i.i + 1) c.get-columns.result.now) (drop (c.loop-i.i + 1) c.get-cells.result.now)) wrong) in
    rw (← c.get-columns.ensures, ← c.get-cells.ensures) (stops ∙ sym c.loop-i.invariant)

pub loop-i-preserved : goal.loop-i-preserved
loop-i-preserved c =
    let inside : c.loop-i.i < length c.get-cells.result.now = rw c.if-cells-columns.false c.loop-i-test.true in
    let next = suits-next c.get-columns.result.now c.get-cells.result.now c.loop-i.i c.index-columns-i.result c.index-cells-i.result c.loop-i-test.true inside c.index-columns-i.is c.index-cells-i.is in
    let right : same_kind c.index-columns-i.result.kind (kind_of c.index-cells-i.result) ≡ true = sym c.takes-fits.ensures ∙ c.if-not-fits.false in
    c.loop-i.invariant ∙ next ∙ ap (λ b. b && suits_of (drop (c.loop-i.i + 1) c.get-columns.result.now) (drop (c.loop-i.i + 1) c.get-cells.result.now)) right

pub returns : goal.returns
returns c =
    let past : length c.get-cells.result.now ≤ c.loop-i.i = rw c.if-cells-columns.false c.loop-i-test.false in
    rw (← c.get-columns.ensures, ← c.get-cells.ensures) (sym (c.loop-i.invariant ∙ suits-end c.get-columns.result.now c.get-cells.result.now c.loop-i.i c.loop-i-test.false past))
