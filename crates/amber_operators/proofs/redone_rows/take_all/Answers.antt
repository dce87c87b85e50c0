-- One is taken off the front.
use Rattle.std.proofs.Common.{rules, ◌≡◌, ◌∙◌, [], ap, arith, sym, length, drop}
use Rattle.std.proofs.lemmas.List.{nil_from_length}
use Rattle.amber_operators.proofs.RedoneFates.{passed-end, passed-step}
use Rattle.amber_operators.proofs.redone_rows.take_all.Goals as goal

pub loop-fate-preserved : goal.loop-fate-preserved
loop-fate-preserved c =
    let old = c.loop-fate.invariant in
    let f = c.in-Some.ensures.items in
    let r = c.in-Some-pop_front.ensures.items in
    let fates = ap length f in
    let rows = ap length r in (
      omega (arith, fates, rows, old.0),
      omega (arith, fates, old.1, c.place.ensures.slots, c.place.ensures.longer),
      (λ i. drop (length (sym f i)) (sym r i)) ∙ old.2,
      passed-step c.loop-fate.pending.items c.place.new.pending.items _ c.loop-fate.left.items c.pop_front.new.self.items c.in-Some.fate c.loop-fate.rows.items c.pop_front-in-Some.new.self.items
          c.in-Some-pop_front.row f r c.place.ensures.goes old.3,
    )

pub returns-clause-pending : goal.returns-clause-pending
returns-clause-pending c =
    let none : c.loop-fate.left.items ≡ [] = nil_from_length c.loop-fate.left.items (search rules) in
    passed-end c.loop-fate.pending.items _ c.loop-fate.left.items c.loop-fate.rows.items none c.loop-fate.invariant.3
