-- Either the key is there, or it begins a group.
use Rattle.std.proofs.Common.{◌∙◌, Some, ap, is_some, sym}
use Rattle.std.specs.Map.{lookup}
use Rattle.amber_rows.specs.Operators.{same_row}
use Rattle.amber_keys.proofs.Answers.{err_so}
use Rattle.amber_keys.proofs.Tables.{lookup-at, lookup-replaced, replaced-twice, set-at, set-same}
use Rattle.amber_keys.specs.KeyTable.{set_value_at}
use Rattle.amber_keys.specs.Tables.{replaced}
use Rattle.amber_group.proofs.GroupTables.{takes-known, takes-new}
use Rattle.amber_group.proofs.Within.{groups_within-found}
use Rattle.amber_group.proofs.groups.Groups.take.Goals as goal

pub add-requires : goal.add-requires
add-requires c =
    let key = c.args.key in
    let few = c.requires in
    let found = c.in-Some.ensures in
    let seen = ap (lookup (same_row key)) (sym c.self.view_is) ∙ lookup-at key c.self.inside.table.entries c.in-Some.place found.distinct found.place ∙ c.value_mut.ensures.value in
    (few.0, few.1, groups_within-found few.0 c.args.self.now key c.value_mut.result.now few.2 seen)

pub returns-in_err-add-in-Some-clause-same : goal.returns-in_err-add-in-Some-clause-same
returns-in_err-add-in-Some-clause-same c =
    let entries = c.self.inside.table.entries in
    let old = c.value_mut.result.now in
    err_so c.from_residual-in_err-add-in-Some.result _
    (ap (set_value_at entries c.in-Some.place) c.in_err-add-in-Some.ensures.same ∙ set-same entries c.in-Some.place old c.value_mut.ensures.value ∙ c.self.view_is)

pub returns-in_ok-add-in-Some-clause-ok : goal.returns-in_ok-add-in-Some-clause-ok
returns-in_ok-add-in-Some-clause-ok c =
    let key = c.args.key in
    let entries = c.self.inside.table.entries in
    let old = c.value_mut.result.now in
    let new = c.add.new.self in
    let found = c.in-Some.ensures in
    takes-known _ old new _ (ap (lookup (same_row key)) (sym c.self.view_is) ∙ lookup-at key entries c.in-Some.place found.distinct found.place ∙ c.value_mut.ensures.value)
    c.in_ok-add-in-Some.ensures.ok c.in_ok-add-in-Some.ensures.within (set-at key new entries c.in-Some.place found.distinct found.place ∙ ap (replaced key new) c.self.view_is)

-- the copy is what the key had
pub returns-in_ok-add-in-Some-clause-back : goal.returns-in_ok-add-in-Some-clause-back
returns-in_ok-add-in-Some-clause-back c =
    let key = c.args.key in
    let entries = c.self.inside.table.entries in
    let place = c.in-Some.place in
    let before = c.in_ok-totals-in-Some.totals in
    let new = c.add.new.self in
    let found = c.in-Some.ensures in
    let seen = lookup-at key entries place found.distinct found.place ∙ c.entry.ensures.value in
    let written = set-at key new entries place found.distinct found.place in
    record {
      can = ap (λ groups. is_some (lookup (same_row key) groups)) written ∙ lookup-replaced key new entries ∙ ap is_some seen;
      back =
          ap (replaced key before) written ∙ replaced-twice key new before entries ∙ sym (set-at key before entries place found.distinct found.place)
          ∙ set-same entries place before (c.entry.ensures.value ∙ ap Some (sym c.in_ok-totals-in-Some.ensures.cases)) ∙ c.self.view_is;
    }

pub returns-in_ok-begin-in-None-clause-ok : goal.returns-in_ok-begin-in-None-clause-ok
returns-in_ok-begin-in-None-clause-ok c =
    let new = c.in_ok-totals-in-None.totals in
    let none = ap (lookup (same_row c.args.key)) (sym c.self.view_is) ∙ c.in-None.ensures.absent in
    takes-new _ new _ none (rw c.get.ensures at c.in_ok-totals-in-None.ensures.value) c.in_ok-totals-in-None.ensures.within c.in_ok-begin-in-None.ensures.groups
