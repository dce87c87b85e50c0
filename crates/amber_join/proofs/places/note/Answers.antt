-- Either the key is there, or it comes last.
use Rattle.std.proofs.Common.{◌∙◌, ◌++◌, ◌∷◌, [], Some, ap, sym}
use Rattle.std.specs.Map.{lookup}
use Rattle.amber_rows.specs.Operators.{same_row}
use Rattle.amber_keys.specs.KeyTable.{set_value_at}
use Rattle.amber_keys.proofs.Answers.{on_err, on_ok}
use Rattle.amber_keys.proofs.Tables.{set-same}
use Rattle.amber_join.proofs.PlaceTables.{table-known, table-new}
use Rattle.amber_join.proofs.places.note.Goals as goal

pub returns-in-Some-clause-ok : goal.returns-in-Some-clause-ok
returns-in-Some-clause-ok c =
    let entries = c.args.table.now.entries in
    let old = c.value_mut.result.now in
    on_ok c.add.result _ _ c.add.ensures.ok
    (λ more keys rows row is key place.
    table-known keys rows row entries is c.in-Some.at old c.add.new.self c.in-Some.ensures.distinct (c.in-Some.ensures.place ∙ ap Some key) c.value_mut.ensures.value (more ∙ ap (λ n. old ++ n ∷ []) place))

pub returns-in-Some-clause-same : goal.returns-in-Some-clause-same
returns-in-Some-clause-same c =
    let entries = c.args.table.now.entries in
    on_err c.add.result _ _ c.add.ensures.same (λ same. ap (set_value_at entries c.in-Some.at) same ∙ set-same entries c.in-Some.at c.value_mut.result.now c.value_mut.ensures.value)

pub returns-in-None-clause-ok : goal.returns-in-None-clause-ok
returns-in-None-clause-ok c =
    let entries = c.args.table.now.entries in
    let new = c.args.place ∷ c.new.result.items in
    on_ok c.add-in-None.result _ _ c.add-in-None.ensures.ok
    (λ grown keys rows row is key place.
    grown
    ∙ ap (λ k. entries ++ (k, new) ∷ []) key
    ∙ table-new keys rows row entries is new (ap (λ k. lookup (same_row k) entries) (sym key) ∙ c.in-None.ensures.absent) (λ i. place i ∷ c.new.ensures.items i))
