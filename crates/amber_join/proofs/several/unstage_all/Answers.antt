-- The last one goes back next.
use Rattle.std.proofs.Common.{◌∙◌, ap, arith, length, subst, sym}
use Rattle.std.proofs.lemmas.List.{length_push}
use Rattle.amber_join.specs.Moving.{BuildSide, CanMoveAllBack, all_moved_back}
use Rattle.amber_join.proofs.MovedRows.{back-last, last-can}
use Rattle.amber_join.proofs.several.unstage_all.Goals as goal

pub move_back-requires : goal.move_back-requires
move_back-requires c =
    let side : BuildSide = record { state = c.loop-moved.state; rows = c.loop-moved.rows.items } in
    let left = c.pop.new.self.items in
    let can = subst (λ l. CanMoveAllBack l side) c.in-Some.ensures.items c.loop-moved.invariant.can in
    let long = ap length c.in-Some.ensures.items ∙ length_push left c.in-Some.moved in
    record {
      can = (last-can left c.in-Some.moved side can).0;
      room = omega (arith, c.loop-moved.invariant.room, long);
    }

pub loop-moved-preserved : goal.loop-moved-preserved
loop-moved-preserved c =
    let side : BuildSide = record { state = c.loop-moved.state; rows = c.loop-moved.rows.items } in
    let left = c.pop.new.self.items in
    let old = c.loop-moved.invariant in
    let can = subst (λ l. CanMoveAllBack l side) c.in-Some.ensures.items old.can in
    let long = ap length c.in-Some.ensures.items ∙ length_push left c.in-Some.moved in
    record {
      back = ap (all_moved_back left) c.move_back.ensures.back ∙ sym (back-last left c.in-Some.moved side) ∙ ap (λ l. all_moved_back l side) (sym c.in-Some.ensures.items) ∙ old.back;
      can = subst (CanMoveAllBack left) (sym c.move_back.ensures.back) (last-can left c.in-Some.moved side can).1;
      room = omega (arith, old.room, long, c.move_back.ensures.longer, c.move_back.ensures.slots);
    }
