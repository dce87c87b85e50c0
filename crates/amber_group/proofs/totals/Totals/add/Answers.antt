-- Either the few or the many take in the row.
use Rattle.std.proofs.Common.{◌≡◌, ◌∙◌, ap, length, map, subst, sym}
use Rattle.std.proofs.lemmas.List.{length-map, with_items_is}
use Rattle.amber_group.specs.Steps.{AreWithin, running_after}
use Rattle.amber_group.proofs.FewOrMany.{few-after, in-few, in-many}
use Rattle.amber_group.proofs.totals.Totals.add.Goals as goal

pub returns-then-self-le-FEW : goal.returns-then-self-le-FEW
returns-then-self-le-FEW c =
    let state = c.self.inside in
    let step = running_after c.args.row.now in
    let new = c.settle_all.new.runnings in
    let le = c.if-self-le-FEW.true in
    let before = sym (in-few state.count state.few state.many.items le) ∙ c.self.view_is in
    let after = few-after step state.count state.few state.many.items new le c.settle_all.ensures.value in
    record {
      ok = after ∙ c.settle_all.ensures.value ∙ ap (map step) before;
      within = λ rows h. subst (AreWithin _) (sym after) (c.settle_all.ensures.within rows (subst (AreWithin rows) (sym before) h));
      same = tt;
    }

pub returns-else-self-le-FEW : goal.returns-else-self-le-FEW
returns-else-self-le-FEW c =
    let state = c.self.inside in
    let step = running_after c.args.row.now in
    let many = c.as_mut_slice.result.now in
    let new = c.settle_all-else-self-le-FEW.new.runnings in
    let settled = c.settle_all-else-self-le-FEW.ensures in
    let more = c.if-self-le-FEW.false in
    let before = c.as_mut_slice.ensures.value ∙ sym (in-many state.count state.few state.many.items more) ∙ c.self.view_is in
    let long : length new ≡ state.many.len = ap length settled.value ∙ length-map many step ∙ ap length c.as_mut_slice.ensures.value ∙ sym state.many.ok.0 in
    let after = in-many state.count state.few _ more ∙ with_items_is state.many new long in
    record {
      ok = after ∙ settled.value ∙ ap (map step) before;
      within = λ rows h. subst (AreWithin _) (sym after) (settled.within rows (subst (AreWithin rows) (sym before) h));
      same = tt;
    }
