-- One column more is one step of `filter_map` more.
use Rattle.std.proofs.Common.{◌≡◌, ◌+◌, ◌∙◌, ◌++◌, ◌∷◌, [], ap, get_or, sym, take}
use Rattle.std.specs.List.{filter_map}
use Rattle.std.proofs.lemmas.List.{take_all, take_more}
use Rattle.std.proofs.lemmas.List.Elements.{filter_map-append}
use Rattle.amber_rows.specs.Lists.{nth}
use Rattle.amber_rows.specs.Operators.{pick_cells}
use Rattle.amber_rows.proofs.row.Row.pick.Goals as goal

pub loop-column-preserved : goal.loop-column-preserved
loop-column-preserved c =
    let cells = filter_map (nth c.args.self.now) in
    let columns = c.get-numbers.result.now in
    let i = c.loop-column.column-index in
    let column = get_or columns i 0 in
    let next : take (i + 1) columns ≡ take i columns ++ column ∷ [] = take_more columns i 0 c.loop-column-test.true in
    c.in_ok-add_cell.ensures
    ∙ ap (λ before. before ++ cells (column ∷ [])) c.loop-column.invariant
    ∙ sym (ap cells next ∙ filter_map-append (nth c.args.self.now) (take i columns) (column ∷ []))

pub returns : goal.returns
unfolding pick_cells
returns c =
    let cells = filter_map (nth c.args.self.now) in
    c.new.ensures ∙ c.loop-column.invariant ∙ ap cells (take_all c.loop-column.column-index c.get-numbers.result.now c.loop-column-test.false ∙ c.get-numbers.ensures)
