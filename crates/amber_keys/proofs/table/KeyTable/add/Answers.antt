-- A key that is not there goes last.
use Rattle.std.proofs.Common.{◌≡◌, ◌∙◌, ◌+◌, ◌<◌, ◌≤◌, ◌++◌, ◌∷◌, [], None, ap, refl, subst, sym}
use Rattle.std.specs.Map.{lookup}
use Rattle.indexmap.proofs.CallerLemmas.{insert_entry-new}
use Rattle.indexmap.specs.IndexMap.{spare}
use Rattle.amber_rows.specs.Operators.{same_row}
use Rattle.amber_keys.specs.KeyTable.{Table}
use Rattle.amber_keys.proofs.table.KeyTable.add.Goals as goal

pub returns-in-Ok : goal.returns-in-Ok
returns-in-Ok g c =
    let none : lookup (same_row c.args.key) c.self.inside.map.entries ≡ None =
    ap (λ (table : Table g.row.V.Denot). lookup (same_row c.args.key) table.entries) c.self.view_is ∙ c.requires in
    record {
      ok = c.in-Ok.ensures.entries
          ∙ insert_entry-new same_row c.self.inside.map c.args.key c.args.value none
          ∙ ap (λ (table : Table g.row.V.Denot). table.entries ++ (c.args.key, c.args.value) ∷ []) c.self.view_is;
      err = tt;
      succeeds = λ more. refl;
      room = subst (λ (table : Table g.row.V.Denot). table.room ≤ spare c.insert.new.self + 1) c.self.view_is c.in-Ok.ensures.spare;
    }

pub returns : goal.returns
returns g c =
    record {
      ok = tt;
      err = c.in-Err.ensures.err ∙ ap (λ (table : Table g.row.V.Denot). table.entries) c.self.view_is;
      succeeds = λ more. c.in-Err.ensures.succeeds (subst (λ (table : Table g.row.V.Denot). 0 < table.room) (sym c.self.view_is) more);
      room = subst (λ (table : Table g.row.V.Denot). table.room ≤ spare c.insert.new.self + 1) c.self.view_is c.in-Err.ensures.spare;
    }
