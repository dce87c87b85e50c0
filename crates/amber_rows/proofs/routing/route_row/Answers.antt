-- One column more is one piece more.
use Rattle.std.proofs.Common.{◌≡◌, ◌+◌, ◌∙◌, ◌++◌, ◌∷◌, [], ap, fold, get_or, sym, take, List, ℕ, ◌%◌}
use Rattle.std.specs.List.{filter_map, flat_map}
use Rattle.std.proofs.lemmas.Grind.{flat_map-append}
use Rattle.std.proofs.lemmas.List.{take_all, take_more}
use Rattle.std.proofs.lemmas.List.Elements.{filter_map-append}
use Rattle.std.proofs.lemmas.List.Sums.{fold-append}
use Rattle.amber_rows.specs.Lists.{nth}
use Rattle.amber_rows.specs.Operators.{pick_cells}
use Rattle.amber_rows.specs.Routing.{fnv_of, fnv_step, key_bytes_of, key_piece, route_of}
use Rattle.amber_rows.proofs.routing.route_row.Goals as goal

pub loop-column-preserved : goal.loop-column-preserved
loop-column-preserved c =
    let cells = filter_map (nth c.args.row.now) in
    let hash = fold fnv_step 14695981039346656037 in
    let columns = c.get-columns.result.now in
    let i = c.loop-column.column-index in
    let column = get_or columns i 0 in
    let next : take (i + 1) columns ≡ take i columns ++ column ∷ [] = take_more columns i 0 c.loop-column-test.true in
    c.hash_column-hash.ensures
    ∙ ap (λ before. fold fnv_step before (flat_map key_piece (cells (column ∷ [])))) c.loop-column.invariant
    ∙ sym (ap (λ all. hash (flat_map key_piece (cells all))) next ∙ ap (λ all. hash (flat_map key_piece all)) (filter_map-append (nth c.args.row.now) (take i columns) (column ∷ []))
    ∙ ap hash (flat_map-append key_piece (cells (take i columns)) (cells (column ∷ [])))
    ∙ fold-append fnv_step 14695981039346656037 (flat_map key_piece (cells (take i columns))) (flat_map key_piece (cells (column ∷ []))))

pub returns : goal.returns
unfolding route_of fnv_of key_bytes_of pick_cells
returns c =
    let hash = λ (columns : List ℕ). fold fnv_step 14695981039346656037 (flat_map key_piece (filter_map (nth c.args.row.now) columns)) in
    rw (c.from.ensures) (ap (λ n. n % c.args.workers) (c.loop-column.invariant ∙ ap hash (take_all c.loop-column.column-index c.get-columns.result.now c.loop-column-test.false ∙ c.get-columns.ensures)))
