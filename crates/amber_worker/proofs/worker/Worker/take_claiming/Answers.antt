-- Units are claimed, and then the next row is taken or left, which was made ready before.
use Rattle.std.proofs.Common.{◌≡◌, inl, inr, true, false, ◌&&◌, eqb, length, refl, ◌∙◌, ap, sym}
use Rattle.amber_link.specs.Links.{has_some}
use Rattle.amber_link.specs.Sides.{have_all_ended}
use Rattle.amber_worker.specs.Counting.{DealsUnits, SeatSide, hand_in}
use Rattle.amber_operators.specs.Handed.{arrivals_in}
use Rattle.amber_worker.specs.Steps.{TakesRow}
use Rattle.amber_operators.specs.Kept.{is_group}
use Rattle.amber_worker.specs.Turning.{TurnsDealing}
use Rattle.amber_worker.specs.WorkerState.{IsUnrestrained, WorkerState, is_starved}
use Rattle.amber_worker.specs.declared.counting.Dealing.{Dealing}
use Rattle.amber_worker.specs.declared.counting.Dealing.TheVariants as dealing
use Rattle.amber_worker.specs.declared.turn.Turn.TheVariants as turn
use Rattle.amber_worker.proofs.Bounds.{few-dealt, few-row, takes-row}
use Rattle.amber_worker.proofs.Dealings.{next-plain, starves-left}
use Rattle.amber_worker.proofs.Dealt.{dealt, deals-at, seat_side}
use Rattle.amber_worker.proofs.Unchanged.{few-noted, few-same, steps-few}
use Rattle.amber_worker.proofs.worker.Worker.take_claiming.Goals as goal

-- a row was taken
takes-left : (how : Dealing) (w : WorkerState) (now : SeatSide) → w.restraint.hand ≡ hand_in w.seat → DealsUnits how (seat_side w) now
    → (new : WorkerState) → IsUnrestrained w → has_some w.pending ≡ false → has_some w.rest ≡ true → is_starved (dealt now w) ≡ false → TakesRow (dealt now w) new
    → TurnsDealing how w new turn.Moved
takes-left how w now own deals new free none some fed takes = record {
  between = dealt now w;
  deals = deals-at how w now own deals;
  makes = record {
    next = next-plain (dealt now w) turn.Moved (rw (free.unfinished, free.running, free.loose, none, some, fed) refl);
    turned = inr (inl takes);
  };
}

pub take_readied-requires : goal.take_readied-requires
take_readied-requires c = (c.ready_next.new.operator_state, (_, _, c.in_ok-readied.ensures.ok))

pub invariant_of-self-then-is_starved : goal.invariant_of-self-then-is_starved
invariant_of-self-then-is_starved c =
    let few = few-dealt _ dealing.Claims _ _ c.deal.ensures.deals c.reserve.ensures.items c.self.invariant in
    few-same _ _ _ (c.leave_readied.ensures.state _ _ c.in_ok-readied.ensures.ok)
    (rw c.leave_readied.ensures.share c.ready_next.ensures.shares)
    (rw (c.leave_readied.ensures.share, ← c.side_columns-columns.ensures) c.ready_next.ensures.typed)
    few

pub note_go-requires-clause-few : goal.note_go-requires-clause-few
note_go-requires-clause-few c =
    few-noted _ 1 0 (few-dealt _ dealing.Claims _ _ c.deal.ensures.deals c.reserve.ensures.items c.self.invariant) refl (steps-few c.self.view_is c.requires.few)

pub invariant_of-self-2 : goal.invariant_of-self-2
invariant_of-self-2 c =
    let few = few-dealt _ dealing.Claims _ _ c.deal.ensures.deals c.reserve.ensures.items c.self.invariant in
    let steps = rw (← c.self.view_is) at c.requires.few in
    let gains = c.take_readied.ensures.taken _ _ _ c.in_ok-readied.ensures.ok in
    rw c.note_go.ensures.items
    (few-row _ _ _ _ gains.becomes few steps (c.take_readied.ensures.shares ∙ c.ready_next.ensures.shares)
    (c.take_readied.ensures.typed _ (rw c.side_columns-columns.ensures at c.ready_next.ensures.typed)))

pub returns-then-is_starved-clause-ok : goal.returns-then-is_starved-clause-ok
returns-then-is_starved-clause-ok c =
    let readied = c.in_ok-readied.ensures.ok in
    let same = c.leave_readied.ensures.gains in
    let free = rw (← c.self.view_is) at c.requires.free in
    let none = rw (← c.self.view_is) at c.requires.none in
    let some = rw (← c.self.view_is) at c.requires.some in
    rw (
      ← c.self.view_is,
      c.deal.ensures.reserved,
      c.reserve.ensures.reserved,
      c.leave_readied.ensures.left _ _ readied,
      c.leave_readied.ensures.state _ _ readied,
      same.pending,
      same.refused,
      same.kept,
      readied.gains.pending,
      readied.gains.refused,
      readied.gains.kept,
    )
    (starves-left dealing.Claims _ _ refl (rw c.reserve.ensures.items at c.deal.ensures.deals) free none some (sym c.if-is_starved.ensures))

pub returns-clause-ok : goal.returns-clause-ok
returns-clause-ok c =
    let gains = c.take_readied.ensures.taken _ _ _ c.in_ok-readied.ensures.ok in
    let free = rw (← c.self.view_is) at c.requires.free in
    let none = rw (← c.self.view_is) at c.requires.none in
    let some = rw (← c.self.view_is) at c.requires.some in
    rw (← c.self.view_is, c.note_go.ensures.reserved, c.deal.ensures.reserved, c.reserve.ensures.reserved)
    (takes-left dealing.Claims _ _ refl (rw c.reserve.ensures.items at c.deal.ensures.deals) _ free none some (sym c.if-is_starved.ensures)
    (takes-row _ gains.one (arrivals_in c.take_readied.new.rest) c.ready_next.new.operator_state gains.last (arrivals_in c.take_readied.new.rest) c.take_readied.new.gains.pending
    c.take_readied.new.gains.refused.items c.take_readied.new.gains.kept.items c.note_go.new.self.entries c.side_columns-columns.result.now c.is_last-over.result none
    c.side_columns-columns.ensures
    (c.is_last-over.ensures ∙ ap (λ ins. is_group c.self.inside.operator_state && (eqb (length (arrivals_in c.self.inside.rest)) 1 && have_all_ended ins)) c.as_slice.ensures.value)
    gains.first refl gains.becomes gains.closes gains.pending gains.refused gains.kept c.note_go.ensures.items))
