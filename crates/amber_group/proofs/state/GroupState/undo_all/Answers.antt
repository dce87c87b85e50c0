-- The last one is taken out next.
use Rattle.std.proofs.Common.{◌∙◌, ap, subst, sym}
use Rattle.amber_group.specs.Undoing.{CanUndoAll, restored_all}
use Rattle.amber_group.proofs.SeveralRows.{last-can, restored-last}
use Rattle.amber_group.proofs.state.GroupState.undo_all.Goals as goal

pub undo-requires : goal.undo-requires
undo-requires c =
    let can = subst (λ l. CanUndoAll l c.loop-taken.self) c.in-Some.ensures.items c.loop-taken.invariant.can in
    (last-can c.pop.new.self.items c.in-Some.taken c.loop-taken.self can).0

pub loop-taken-preserved : goal.loop-taken-preserved
loop-taken-preserved c =
    let can = subst (λ l. CanUndoAll l c.loop-taken.self) c.in-Some.ensures.items c.loop-taken.invariant.can in
    record {
      back = ap (restored_all c.pop.new.self.items) c.undo.ensures ∙ sym (restored-last c.pop.new.self.items c.in-Some.taken c.loop-taken.self)
          ∙ ap (λ l. restored_all l c.loop-taken.self) (sym c.in-Some.ensures.items) ∙ c.loop-taken.invariant.back;
      can = subst (CanUndoAll c.pop.new.self.items) (sym c.undo.ensures) (last-can c.pop.new.self.items c.in-Some.taken c.loop-taken.self can).1;
    }
