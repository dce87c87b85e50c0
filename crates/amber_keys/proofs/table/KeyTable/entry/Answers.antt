-- The key and the value of the entry at the place.
use Rattle.std.proofs.Common.{◌≡◌, ◌∙◌, List, Some, option_map, slice_get, ap, sym}
use Rattle.std.specs.Map.Iter.{deref_pair}
use Rattle.std.proofs.lemmas.Option.{slice_get-map}
use Rattle.amber_rows.specs.declared.value.Value.{Value}
use Rattle.amber_keys.specs.KeyTable.{Table}
use Rattle.amber_keys.proofs.table.KeyTable.entry.Goals as goal

pub returns-clause-key : goal.returns-clause-key
returns-clause-key g c =
    let entries = c.args.self.now.entries in
    let here : slice_get entries c.args.place ≡ Some (c.unwrap.result.0.now, c.unwrap.result.1.now) =
    ap (λ (table : Table g.row.V.Denot). slice_get table.entries c.args.place) (sym c.self.view_is) ∙ sym c.get_index.ensures.entry ∙ ap (option_map (deref_pair {K = List Value} {X = g.row.V.Denot})) c.unwrap.ensures in
    slice_get-map (λ (entry : List Value × g.row.V.Denot). entry.0) entries c.args.place ∙ ap (option_map (λ (entry : List Value × g.row.V.Denot). entry.0)) here

pub returns-clause-value : goal.returns-clause-value
returns-clause-value g c =
    let entries = c.args.self.now.entries in
    let here : slice_get entries c.args.place ≡ Some (c.unwrap.result.0.now, c.unwrap.result.1.now) =
    ap (λ (table : Table g.row.V.Denot). slice_get table.entries c.args.place) (sym c.self.view_is) ∙ sym c.get_index.ensures.entry ∙ ap (option_map (deref_pair {K = List Value} {X = g.row.V.Denot})) c.unwrap.ensures in
    slice_get-map (λ (entry : List Value × g.row.V.Denot). entry.1) entries c.args.place ∙ ap (option_map (λ (entry : List Value × g.row.V.Denot). entry.1)) here
