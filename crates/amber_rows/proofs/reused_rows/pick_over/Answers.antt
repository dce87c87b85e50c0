-- One column more is one step of `filter_map` more.
use Rattle.std.proofs.Common.{◌≡◌, ◌<◌, ◌+◌, ◌∙◌, ◌++◌, ◌∷◌, [], Some, ap, arith, get_or, length, refl, sym, take}
use Rattle.std.specs.List.{filter_map}
use Rattle.std.proofs.lemmas.List.{length-set, take_all, take_more, take_more_set}
use Rattle.std.proofs.lemmas.List.Elements.{filter_map-append}
use Rattle.amber_rows.specs.Lists.{nth}
use Rattle.amber_rows.specs.Operators.{pick_cells}
use Rattle.amber_rows.proofs.reused_rows.pick_over.Goals as goal

pub loop-i-preserved : goal.loop-i-preserved
loop-i-preserved c =
    let row = c.args.row.now in
    let cells = filter_map (nth row) in
    let columns = c.get-numbers.result.now in
    let room = c.loop-i.room.items in
    let i = c.loop-i.i in
    let cell = c.set.new.self in
    let column = get_or columns i 0 in
    let found : nth row column ≡ Some cell = sym c.in-Some.ensures ∙ ap Some (sym c.in_ok-set.ensures) in
    let one : cells (column ∷ []) ≡ cell ∷ [] = rw found refl in
    let next : take (i + 1) columns ≡ take i columns ++ column ∷ [] = take_more columns i 0 c.loop-i-test.true in
    let within : i < length room = omega (arith, c.loop-i.invariant.whole, c.loop-i-test.true) in
    record {
      picked = take_more_set room i cell within ∙ ap (λ before. before ++ cell ∷ []) c.loop-i.invariant.picked ∙ ap (λ more. cells (take i columns) ++ more) (sym one)
          ∙ sym (ap cells next ∙ filter_map-append (nth row) (take i columns) (column ∷ []));
      whole = length-set room i cell ∙ c.loop-i.invariant.whole;
    }

pub returns : goal.returns
unfolding pick_cells
returns c =
    let cells = filter_map (nth c.args.row.now) in
    let i = c.loop-i.i in
    let whole = take_all i c.loop-i.room.items (omega (arith, c.loop-i.invariant.whole)) in
    c.new.ensures ∙ sym whole ∙ c.loop-i.invariant.picked ∙ ap cells (take_all i c.get-numbers.result.now (omega arith) ∙ c.get-numbers.ensures)
