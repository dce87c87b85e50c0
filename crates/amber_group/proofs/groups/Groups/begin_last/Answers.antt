-- The new group comes last, and so does its row.
use Rattle.std.proofs.Common.{◌≡◌, ◌∙◌, ◌++◌, ◌∷◌, [], List, ap, arith, sym}
use Rattle.std.proofs.lemmas.List.Elements.{filter_map-append}
use Rattle.amber_rows.specs.declared.value.Value.{Value}
use Rattle.amber_group.specs.declared.running.Running.{Running}
use Rattle.amber_group.specs.Finished.{finished_row, finished_rows}
use Rattle.amber_group.proofs.groups.Groups.begin_last.Goals as goal

pub returns-clause-rows : goal.returns-clause-rows
returns-clause-rows c =
    let groups = c.args.self.now in
    let group : List Value × List Running = (c.args.key, c.args.totals) in
    let made : c.add_group.new.rows.items ≡ finished_rows (groups ++ group ∷ []) =
    c.in_ok-add_group.ensures.rows
    ∙ (λ i. (c.into_inner-rows.ensures ∙ c.in_ok-finish.ensures.rows) i ++ finished_rows ((c.row.ensures i, c.get.ensures i) ∷ []))
    ∙ sym (filter_map-append finished_row groups (group ∷ [])) in
    c.in-Ok.ensures.items
    ∙ (λ i. c.in_ok-reserve.ensures.items i ++ (c.from_vec-rows.ensures.items ∙ made ∙ ap finished_rows (sym c.in_ok-begin.ensures.groups)) i)

pub returns-clause-groups : goal.returns-clause-groups
returns-clause-groups c = c.in_ok-begin.ensures.groups

pub begin-requires : goal.begin-requires
begin-requires c = c.requires

pub unreachable-requires : goal.unreachable-requires
unreachable-requires c = omega (arith, c.in_default.ensures.full, c.in_ok-reserve.ensures.ok, c.len.ensures)
