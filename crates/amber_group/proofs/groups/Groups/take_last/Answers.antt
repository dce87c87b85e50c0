-- Either the key is there, or it begins a group.
use Rattle.std.proofs.Common.{◌∙◌, Some, ap, is_some, sym}
use Rattle.std.specs.Map.{lookup}
use Rattle.amber_rows.specs.Operators.{same_row}
use Rattle.amber_keys.proofs.Answers.{if_ok}
use Rattle.amber_keys.proofs.Tables.{lookup-at}
use Rattle.amber_group.proofs.GroupTables.{takes-known, takes-new}
use Rattle.amber_group.proofs.Within.{groups_within-found}
use Rattle.amber_group.proofs.groups.Groups.take_last.Goals as goal

pub add-requires : goal.add-requires
add-requires c =
    let key = c.args.key in
    let few = c.requires in
    let found = c.in-Some.ensures in
    let seen = ap (lookup (same_row key)) (sym c.self.view_is) ∙ lookup-at key c.self.inside.table.entries c.in-Some.place found.distinct found.place ∙ c.entry.ensures.value in
    (few.0, few.1, groups_within-found few.0 c.args.self.now key c.in_ok-totals-in-Some.totals few.2 (seen ∙ ap Some (sym c.in_ok-totals-in-Some.ensures.cases)))

pub change-requires : goal.change-requires
change-requires c =
    let key = c.args.key in
    let found = c.in-Some.ensures in
    ap is_some (ap (lookup (same_row key)) (sym c.self.view_is) ∙ lookup-at key c.self.inside.table.entries c.in-Some.place found.distinct found.place ∙ c.entry.ensures.value)

pub begin_last-requires : goal.begin_last-requires
begin_last-requires c = ap (lookup (same_row c.args.key)) (sym c.self.view_is) ∙ c.in-None.ensures.absent

pub returns-in_ok-add-in-Some : goal.returns-in_ok-add-in-Some
returns-in_ok-add-in-Some c =
    let key = c.args.key in
    let found = c.in-Some.ensures in
    let seen = ap (lookup (same_row key)) (sym c.self.view_is) ∙ lookup-at key c.self.inside.table.entries c.in-Some.place found.distinct found.place ∙ c.entry.ensures.value in
    let old = c.in_ok-totals-in-Some.totals in
    record {
      ok = if_ok c.change.result _ _ c.change.ensures.groups
          (λ _ is.
          takes-known _ old c.add.new.self _ (seen ∙ ap Some (sym c.in_ok-totals-in-Some.ensures.cases)) c.in_ok-add-in-Some.ensures.ok c.in_ok-add-in-Some.ensures.within is);
      rows = c.change.ensures.rows;
      groups_on_err = c.change.ensures.groups_on_err;
      rows_on_err = c.change.ensures.rows_on_err;
    }

pub returns-in_ok-totals-in-None : goal.returns-in_ok-totals-in-None
returns-in_ok-totals-in-None c =
    let new = c.in_ok-totals-in-None.totals in
    let none = ap (lookup (same_row c.args.key)) (sym c.self.view_is) ∙ c.in-None.ensures.absent in
    record {
      ok = if_ok c.begin_last.result _ _ c.begin_last.ensures.groups
          (λ _ is. takes-new _ new _ none (rw c.get.ensures at c.in_ok-totals-in-None.ensures.value) c.in_ok-totals-in-None.ensures.within is);
      rows = c.begin_last.ensures.rows;
      groups_on_err = c.begin_last.ensures.groups_on_err;
      rows_on_err = c.begin_last.ensures.rows_on_err;
    }
