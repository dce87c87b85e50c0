-- The key has one place less, or is gone.
use Rattle.std.proofs.Common.{◌∙◌, Some, ap, not, sym}
use Rattle.std.specs.Map.{lookup}
use Rattle.amber_rows.specs.Operators.{same_row}
use Rattle.amber_join.proofs.ForgottenPlaces.{is-told, table-fewer, table-without}
use Rattle.amber_join.proofs.places.forget.Goals as goal

pub returns-in_default : goal.returns-in_default
returns-in_default c keys rows row is own =
    absurd (is-told keys rows row c.args.table.now.entries is (ap (λ k. lookup (same_row k) c.args.table.now.entries) (sym own) ∙ c.in_default.ensures.absent))

pub returns-then-is_none : goal.returns-then-is_none
returns-then-is_none c keys rows row is own =
    let found = c.in-Some.ensures in
    let off = c.drop_last.ensures in
    table-without keys rows row c.args.table.now.entries is c.in-Some.at c.value_mut.result.now found.distinct (found.place ∙ ap Some own) c.value_mut.ensures.value
    c.drop_last.new.self c.drop_last.result off.last (c.is_none.ensures ∙ ap not c.if-is_none.true) off.only c.take_last.new.self.entries c.take_last.result c.take_last.ensures.entries c.take_last.ensures.found

pub returns-else-is_none : goal.returns-else-is_none
returns-else-is_none c keys rows row is own =
    let found = c.in-Some.ensures in
    let off = c.drop_last.ensures in
    table-fewer keys rows row c.args.table.now.entries is c.in-Some.at c.value_mut.result.now found.distinct (found.place ∙ ap Some own) c.value_mut.ensures.value
    c.drop_last.new.self c.drop_last.result off.last (c.is_none.ensures ∙ ap not c.if-is_none.false) off.some
