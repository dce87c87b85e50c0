-- Nothing was read ahead, and the next record stands past the last.
use Rattle.std.proofs.Common.{◌≡◌, ◌∙◌, ◌-◌, ◌++◌, [], ap, arith, leb, length, sym}
use Rattle.std.specs.Arc.{arc_value}
use Rattle.std.proofs.lemmas.Bool.{eqb-false, eqb-true}
use Rattle.amber_rows.specs.Lists.{is_empty}
use Rattle.amber_scan.proofs.Every.{rest-empty, rest_of}
use Rattle.amber_scan.proofs.Taking.{no-elements, some-first}
use Rattle.amber_scan.proofs.share.Share.is_empty.Goals as goal

pub returns-then-is_empty : goal.returns-then-is_empty
returns-then-is_empty c =
    let a = c.self.inside in
    let records = arc_value a.records in
    let rest = rest_of a.columns records a.step a.before in
    let none : a.ahead.items ≡ [] = no-elements a.ahead.items (omega (arith, eqb-true _ 0 (sym c.if-is_empty.ensures))) in
    let view = ap (λ share. is_empty share.left) c.self.view_is in
    let count = c.count.ensures ∙ ap (λ rs. length rs - 1) c.deref.ensures in
    ap (λ n. leb n a.before) count ∙ rest-empty a.columns records a.step a.before c.self.invariant.0 ∙ sym (ap (λ ahead. is_empty (ahead ++ rest)) none) ∙ view

pub returns-else-is_empty : goal.returns-else-is_empty
returns-else-is_empty c =
    let a = c.self.inside in
    let rest = rest_of a.columns (arc_value a.records) a.step a.before in
    let some = eqb-false _ 0 (sym c.if-is_empty.ensures) in
    let view = ap (λ share. is_empty share.left) c.self.view_is in
    c.if-is_empty.false ∙ sym (some-first a.ahead.items rest (omega (arith, some))) ∙ view
