-- Units are dealt with, and a row less is pending where the worker has one.
use Rattle.std.proofs.Common.{◌≡◌, false, ◌≤◌, ◌<◌, ◌^◌, ◌∙◌, length, map, ap, sym, arith, refl}
use Rattle.amber_link.specs.Links.{has_some}
use Rattle.amber_link.specs.Sides.{without_room}
use Rattle.amber_link.specs.declared.downstreams.Downstream.{Downstream}
use Rattle.amber_worker.specs.WorkerState.{WorkerState}
use Rattle.amber_worker.proofs.Bounds.{few-dealt, few-emitted, few-sent, written-back}
use Rattle.amber_worker.proofs.Dealings.{counts-unit, emits-dealing, emits-row, starves-dealing}
use Rattle.amber_worker.proofs.Roomless.{still-all}
use Rattle.amber_worker.proofs.Unchanged.{err_so, few-made, few-noted, same-journal, same-outs, steps-few}
use Rattle.amber_worker.proofs.worker.Worker.emit_row.Goals as goal

pub invariant_of-self : goal.invariant_of-self
invariant_of-self c = rw c.reserve.ensures.items c.self.invariant

pub invariant_of-self-in_err-place : goal.invariant_of-self-in_err-place
invariant_of-self-in_err-place c =
    let lent = ap length c.as_mut_slice-outs.ensures.value in
    let len : c.self.inside.outs.len ≡ length c.self.inside.outs.items = omega (arith, lent, c.as_mut_slice-outs.ensures.len) in
    let stays : length c.first_place.new.outs ≡ length c.self.inside.outs.items = omega (arith, lent, c.first_place.auto.outs) in
    let same = c.first_place.ensures.same ∙ ap (map without_room) c.as_mut_slice-outs.ensures.value in
    rw (c.reserve.ensures.items, written-back _ _ _ len stays)
    (few-sent _ _ c.self.invariant
    (λ e. still-all (λ (one : Downstream). one.link.kept.made ≤ c.self.inside.emitted) c.self.inside.outs.items c.first_place.new.outs same (c.self.invariant.sent e))
    (still-all (λ (one : Downstream). one.link.kept.ended ≡ c.self.inside.finished) c.self.inside.outs.items c.first_place.new.outs same c.self.invariant.over))

pub invariant_of-self-then-is_starved : goal.invariant_of-self-then-is_starved
invariant_of-self-then-is_starved c =
    let lent = ap length c.as_mut_slice-outs.ensures.value in
    let len : c.self.inside.outs.len ≡ length c.self.inside.outs.items = omega (arith, lent, c.as_mut_slice-outs.ensures.len) in
    let stays : length c.first_place.new.outs ≡ length c.self.inside.outs.items = omega (arith, lent, c.first_place.auto.outs) in
    let same = c.first_place.ensures.same ∙ ap (map without_room) c.as_mut_slice-outs.ensures.value in
    let few = few-dealt _ c.args.how _ _ c.deal.ensures.deals c.reserve.ensures.items c.self.invariant in
    rw (written-back _ _ _ len stays)
    (few-sent _ _ few
    (λ e. still-all (λ (one : Downstream). one.link.kept.made ≤ c.self.inside.emitted) c.self.inside.outs.items c.first_place.new.outs same (c.self.invariant.sent e))
    (still-all (λ (one : Downstream). one.link.kept.ended ≡ c.self.inside.finished) c.self.inside.outs.items c.first_place.new.outs same c.self.invariant.over))

pub invariant_of-self-2 : goal.invariant_of-self-2
invariant_of-self-2 c =
    let lent = ap length c.as_mut_slice-outs.ensures.value in
    let len : c.self.inside.outs.len ≡ length c.self.inside.outs.items = omega (arith, lent, c.as_mut_slice-outs.ensures.len) in
    let stays : length c.emit_first.new.outs ≡ length c.self.inside.outs.items = omega (arith, lent, c.first_place.auto.outs, c.emit_first.auto.outs) in
    let steps = rw (← c.self.view_is) at c.requires.few in
    let unfinished = ap (λ (w : WorkerState). w.finished) c.self.view_is ∙ c.requires.free.unfinished in
    let few = few-dealt _ c.args.how _ _ c.deal.ensures.deals c.reserve.ensures.items c.self.invariant in
    rw (c.note_go.ensures.items, written-back _ _ _ len stays)
    (few-emitted _ _ unfinished few steps
    (λ n h. c.emit_first.ensures.few n (c.first_place.ensures.made n (rw c.as_mut_slice-outs.ensures.value h))) c.emit_first.ensures.«open»)

pub returns-in_err-reserve-clause-err : goal.returns-in_err-reserve-clause-err
returns-in_err-reserve-clause-err c = err_so c.from_residual.result _ (same-journal _ _ _ _ c.reserve.ensures.items c.reserve.ensures.reserved c.self.view_is)

pub returns-in_err-place-clause-err : goal.returns-in_err-place-clause-err
returns-in_err-place-clause-err c =
    let lent = ap length c.as_mut_slice-outs.ensures.value in
    let len : c.self.inside.outs.len ≡ length c.self.inside.outs.items = omega (arith, lent, c.as_mut_slice-outs.ensures.len) in
    let stays : length c.first_place.new.outs ≡ length c.self.inside.outs.items = omega (arith, lent, c.first_place.auto.outs) in
    let same = c.first_place.ensures.same ∙ ap (map without_room) c.as_mut_slice-outs.ensures.value in
    err_so c.from_residual-in_err-place.result _
    (same-outs _ _ _ _ _ c.reserve.ensures.items c.reserve.ensures.reserved (ap (map without_room) (written-back _ _ _ len stays) ∙ same) c.self.view_is)

pub returns-then-is_starved-clause-ok : goal.returns-then-is_starved-clause-ok
returns-then-is_starved-clause-ok c =
    let lent = ap length c.as_mut_slice-outs.ensures.value in
    let len : c.self.inside.outs.len ≡ length c.self.inside.outs.items = omega (arith, lent, c.as_mut_slice-outs.ensures.len) in
    let stays : length c.first_place.new.outs ≡ length c.self.inside.outs.items = omega (arith, lent, c.first_place.auto.outs) in
    let same = c.first_place.ensures.same ∙ ap (map without_room) c.as_mut_slice-outs.ensures.value in
    let free = rw (← c.self.view_is) at c.requires.free in
    let some = rw (← c.self.view_is) at c.requires.some in
    rw (← c.self.view_is, c.deal.ensures.reserved, c.reserve.ensures.reserved, written-back _ _ _ len stays, same)
    (starves-dealing c.args.how _ _ refl (rw c.reserve.ensures.items at c.deal.ensures.deals) free some (sym c.if-is_starved.ensures))

pub returns-clause-ok : goal.returns-clause-ok
returns-clause-ok c =
    let lent = ap length c.as_mut_slice-outs.ensures.value in
    let len : c.self.inside.outs.len ≡ length c.self.inside.outs.items = omega (arith, lent, c.as_mut_slice-outs.ensures.len) in
    let stays : length c.emit_first.new.outs ≡ length c.self.inside.outs.items = omega (arith, lent, c.first_place.auto.outs, c.emit_first.auto.outs) in
    let same = c.first_place.ensures.same ∙ ap (map without_room) c.as_mut_slice-outs.ensures.value in
    let emits = rw same at (c.emit_first.ensures.emits _ c.in_ok-place.ensures.place) in
    let free = rw (← c.self.view_is) at c.requires.free in
    let some = rw (← c.self.view_is) at c.requires.some in
    let must = rw (← c.self.view_is) at c.requires.must in
    rw (← c.self.view_is, c.note_go.ensures.reserved, c.deal.ensures.reserved, c.reserve.ensures.reserved)
    (emits-dealing c.args.how _ _ refl (rw c.reserve.ensures.items at c.deal.ensures.deals) _ free some must (sym c.if-is_starved.ensures)
    (emits-row _ _ _ _ _ _ refl emits (ap (map without_room) (written-back _ _ _ len stays)) c.count_one.ensures.counts c.note_go.ensures.items))

pub first_place-requires-clause-some : goal.first_place-requires-clause-some
first_place-requires-clause-some c = ap (λ (w : WorkerState). has_some w.pending) c.self.view_is ∙ c.requires.some

pub first_place-requires-clause-open : goal.first_place-requires-clause-open
first_place-requires-clause-open c =
    let unfinished : c.self.inside.finished ≡ false = ap (λ (w : WorkerState). w.finished) c.self.view_is ∙ c.requires.free.unfinished in
    rw c.as_mut_slice-outs.ensures.value (λ k d there. c.self.invariant.over k d there ∙ unfinished)

pub emit_first-requires-clause-some : goal.emit_first-requires-clause-some
emit_first-requires-clause-some c = ap (λ (w : WorkerState). has_some w.pending) c.self.view_is ∙ c.requires.some

pub emit_first-requires-clause-few : goal.emit_first-requires-clause-few
emit_first-requires-clause-few c =
    let unfinished : c.self.inside.finished ≡ false = ap (λ (w : WorkerState). w.finished) c.self.view_is ∙ c.requires.free.unfinished in
    still-all (λ (one : Downstream). one.link.kept.made < 2 ^ 40) c.as_mut_slice-outs.result.now c.first_place.new.outs c.first_place.ensures.same
    (rw c.as_mut_slice-outs.ensures.value (few-made _ c.self.invariant unfinished (steps-few c.self.view_is c.requires.few)))

pub note_go-requires-clause-few : goal.note_go-requires-clause-few
note_go-requires-clause-few c =
    few-noted _ 0 1 (few-dealt _ c.args.how _ _ c.deal.ensures.deals c.reserve.ensures.items c.self.invariant) refl (steps-few c.self.view_is c.requires.few)

pub count_one-requires-clause-unit : goal.count_one-requires-clause-unit
count_one-requires-clause-unit c = counts-unit c.deal.new.seat (sym c.if-is_starved.ensures)
