-- The key that is found is the key that was looked for.
use Rattle.std.proofs.Common.{◌≡◌, ◌∙◌, ℕ, List, Option, Some, None, IfSome, get_or, position, slice_get, ap, sym}
use Rattle.std.proofs.lemmas.List.Quantifiers.{position-Some}
use Rattle.std.proofs.lemmas.Option.{slice_get-get_or}
use Rattle.amber_rows.specs.Operators.{same_row}
use Rattle.amber_rows.specs.declared.value.Value.{Value}
use Rattle.amber_keys.specs.KeyTable.{Table, table_keys}
use Rattle.amber_keys.specs.SameRows.{same-is}
use Rattle.amber_keys.proofs.table.KeyTable.place_of.Goals as goal

stands-there : (key : List Value) (keys : List (List Value)) (found : Option ℕ) → found ≡ position (same_row key) keys → IfSome found (λ place. slice_get keys place ≡ Some key)
stands-there key keys None is = tt
stands-there key keys (Some place) is =
    let at = position-Some (same_row key) keys place key (sym is) in
    slice_get-get_or keys place key at.0 ∙ ap Some (sym (same-is key (get_or keys place key) at.1))

pub returns-clause-place : goal.returns-clause-place
returns-clause-place g c =
    let key = c.args.key.now in
    stands-there key (table_keys c.args.self.now) c.get_index_of.result
    (c.get_index_of.ensures.index ∙ ap (λ (table : Table g.row.V.Denot). position (same_row key) (table_keys table)) c.self.view_is)
