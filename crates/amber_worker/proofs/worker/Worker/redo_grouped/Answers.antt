-- The rows were fed, and the line was judged then.
use Rattle.std.proofs.Common.{◌≡◌, ◌+◌, ◌≤◌, ◌^◌, false, length, take, map, ap, refl, sym, ◌∙◌, arith, subst}
use Rattle.std.proofs.lemmas.List.{length-take-le}
use Rattle.amber_link.specs.Sides.{without_room}
use Rattle.amber_link.specs.declared.downstreams.Downstream.{Downstream}
use Rattle.amber_worker.specs.contracts.worker.Worker.{the_view}
use Rattle.amber_operators.specs.Handed.{arrivals_in}
use Rattle.amber_worker.specs.RedoneRows.{MayGoOn, MayNotGo}
use Rattle.amber_worker.specs.WorkerState.{WorkerState, steps_made}
use Rattle.amber_worker.proofs.Bounds.{few-sent, written-back}
use Rattle.amber_worker.proofs.FewRows.{few-rows}
use Rattle.amber_worker.proofs.LinesFed.{fed-makes, few-fed, group-batch, is-done, made-filled, made-may, made-not, not-done, offer_of, rest-dropped, same-behind, same-worker}
use Rattle.amber_worker.proofs.LinesTaken.{goes-on}
use Rattle.amber_operators.proofs.ReadiedFacts.{arrivals-batch}
use Rattle.amber_worker.proofs.Roomless.{still-all}
use Rattle.amber_worker.proofs.Unchanged.{few-same}
use Rattle.amber_worker.proofs.worker.Worker.redo_grouped.Goals as goal

pub invariant_of-self-then-not-is_done : goal.invariant_of-self-then-not-is_done
invariant_of-self-then-not-is_done c =
    let lent = ap length c.as_mut_slice-links.ensures.value in
    let len : c.self.inside.outs.len ≡ length c.self.inside.outs.items = omega (arith, lent, c.as_mut_slice-links.ensures.len) in
    let stays : length c.settle-may.new.outs ≡ length c.self.inside.outs.items = omega (arith, lent, c.settle-may.auto.outs) in
    let same = c.settle-may.ensures.same_outs ∙ ap (map without_room) c.as_mut_slice-links.ensures.value in
    let kept = c.unfeed_groups.ensures c.self.inside.operator_state c.in_ok-taken.ensures.back in
    rw (c.settle-may.ensures.entries, written-back _ _ _ len stays)
    (few-sent _ _ (few-same _ _ _ kept refl c.self.invariant.typed c.self.invariant)
    (λ e. still-all (λ (one : Downstream). one.link.kept.made ≤ c.self.inside.emitted) c.self.inside.outs.items c.settle-may.new.outs same (c.self.invariant.sent e))
    (still-all (λ (one : Downstream). one.link.kept.ended ≡ c.self.inside.finished) c.self.inside.outs.items c.settle-may.new.outs same c.self.invariant.over))

pub returns-then-not-is_done-clause-ok : goal.returns-then-not-is_done-clause-ok
returns-then-not-is_done-clause-ok c =
    let lent = ap length c.as_mut_slice-links.ensures.value in
    let len : c.self.inside.outs.len ≡ length c.self.inside.outs.items = omega (arith, lent, c.as_mut_slice-links.ensures.len) in
    let stays : length c.settle-may.new.outs ≡ length c.self.inside.outs.items = omega (arith, lent, c.settle-may.auto.outs) in
    let same = c.settle-may.ensures.same_outs ∙ ap (map without_room) c.as_mut_slice-links.ensures.value in
    let kept = c.unfeed_groups.ensures c.self.inside.operator_state c.in_ok-taken.ensures.back in
    let batch = group-batch c.self.inside.rest.share c.self.inside.operator_state c.in_ok-taken.ensures.feeds.before c.in_ok-taken.ensures.feeds.was c.self.invariant.scans in
    let w : WorkerState = the_view c.self.inside in
    let each = rw c.side_columns-columns.ensures at c.in_ok-taken.ensures.feeds in
    let closes = rw (c.ends_with-over.ensures, c.as_slice.ensures.value) at c.in_ok-taken.ensures.closes in
    let makes = fed-makes c.args.line w c.feed_groups.new.operator_state c.self.inside.rest.from c.self.inside.rest.rows.items c.in_ok-taken.field-0.made.items
    (arrivals-batch c.self.inside.rest batch) each closes in
    not-done c.settle-may.result _ _ _ (c.is_done.ensures.not c.if-not-is_done.true) (rw (c.new-offering.ensures, c.left-left.ensures) at c.settle-may.ensures.may)
    (λ never. (
      subst (MayNotGo c.args.line) c.self.view_is (made-not c.args.line w 0 c.in_ok-taken.field-0.made.items c.feed_groups.new.operator_state makes never),
      same-worker _ _ _ _ _ _ kept (ap (map without_room) (written-back _ _ _ len stays) ∙ same) c.settle-may.ensures.entries c.settle-may.ensures.reserved c.self.view_is,
    ))

pub feed_groups-requires-clause-few : goal.feed_groups-requires-clause-few
feed_groups-requires-clause-few c = λ state is.
    let steps = subst (λ w. steps_made w + (c.args.line.rows + c.args.line.outs) ≤ 2 ^ 40) (sym c.self.view_is) c.requires.few in
    few-fed c.self.inside.building c.self.inside.taken c.args.line.rows c.self.inside.ins.items c.self.inside.operator_state state is c.self.invariant.in_order (omega (arith, steps))

pub hand_line-requires-clause-few : goal.hand_line-requires-clause-few
hand_line-requires-clause-few c =
    let unfinished : c.self.inside.finished ≡ false = ap (λ (w : WorkerState). w.finished) c.self.view_is ∙ c.requires.unfinished in
    let steps = subst (λ w. steps_made w + (c.args.line.rows + c.args.line.outs) ≤ 2 ^ 40) (sym c.self.view_is) c.requires.few in
    let same = c.settle-may.ensures.same_outs ∙ ap (map without_room) c.as_mut_slice-links.ensures.value in
    still-all (λ (one : Downstream). one.link.kept.made + c.args.line.outs ≤ 2 ^ 40) c.self.inside.outs.items c.settle-may.new.outs same
    (λ k d less. let h = c.self.invariant.sent unfinished k d less in omega (arith, h, steps))

pub invariant_of-self-2 : goal.invariant_of-self-2
invariant_of-self-2 c =
    let lent = ap length c.as_mut_slice-links.ensures.value in
    let len : c.self.inside.outs.len ≡ length c.self.inside.outs.items = omega (arith, lent, c.as_mut_slice-links.ensures.len) in
    let stays : length c.hand_line.new.outs ≡ length c.self.inside.outs.items = omega (arith, lent, c.settle-may.auto.outs, c.hand_line.auto.outs) in
    let steps = subst (λ w. steps_made w + (c.args.line.rows + c.args.line.outs) ≤ 2 ^ 40) (sym c.self.view_is) c.requires.few in
    let unfinished : c.self.inside.finished ≡ false = ap (λ (w : WorkerState). w.finished) c.self.view_is ∙ c.requires.unfinished in
    let same = c.settle-may.ensures.same_outs ∙ ap (map without_room) c.as_mut_slice-links.ensures.value in
    let batch = group-batch c.self.inside.rest.share c.self.inside.operator_state c.in_ok-taken.ensures.feeds.before c.in_ok-taken.ensures.feeds.was c.self.invariant.scans in
    let w : WorkerState = the_view c.self.inside in
    let each = rw c.side_columns-columns.ensures at c.in_ok-taken.ensures.feeds in
    let closes = rw (c.ends_with-over.ensures, c.as_slice.ensures.value) at c.in_ok-taken.ensures.closes in
    let makes = fed-makes c.args.line w c.feed_groups.new.operator_state c.self.inside.rest.from c.self.inside.rest.rows.items c.in_ok-taken.field-0.made.items
    (arrivals-batch c.self.inside.rest batch) each closes in
    let there : c.args.line.rows ≤ length (arrivals_in c.self.inside.rest) = omega (arith, c.if-rows-left.false, c.left-left.ensures) in
    rw (c.push.ensures.items, c.settle-may.ensures.entries, written-back _ _ _ len stays)
    (few-rows _ c.args.line.rows c.args.line.outs c.feed_groups.new.operator_state _ (take c.args.line.rows (arrivals_in c.self.inside.rest)) c.self.inside.rest.share c.hand_line.new.outs
    unfinished c.self.invariant makes.becomes (length-take-le c.args.line.rows (arrivals_in c.self.inside.rest) there) (omega (arith, steps)) refl c.self.invariant.typed
    (λ n h. c.hand_line.ensures.few n (still-all (λ (one : Downstream). one.link.kept.made ≤ n) c.self.inside.outs.items c.settle-may.new.outs same h)) c.hand_line.ensures.«open»)

pub returns-clause-ok : goal.returns-clause-ok
returns-clause-ok c =
    let lent = ap length c.as_mut_slice-links.ensures.value in
    let len : c.self.inside.outs.len ≡ length c.self.inside.outs.items = omega (arith, lent, c.as_mut_slice-links.ensures.len) in
    let stays : length c.hand_line.new.outs ≡ length c.self.inside.outs.items = omega (arith, lent, c.settle-may.auto.outs, c.hand_line.auto.outs) in
    let same = c.settle-may.ensures.same_outs ∙ ap (map without_room) c.as_mut_slice-links.ensures.value in
    let batch = group-batch c.self.inside.rest.share c.self.inside.operator_state c.in_ok-taken.ensures.feeds.before c.in_ok-taken.ensures.feeds.was c.self.invariant.scans in
    let w : WorkerState = the_view c.self.inside in
    let each = rw c.side_columns-columns.ensures at c.in_ok-taken.ensures.feeds in
    let closes = rw (c.ends_with-over.ensures, c.as_slice.ensures.value) at c.in_ok-taken.ensures.closes in
    let makes = fed-makes c.args.line w c.feed_groups.new.operator_state c.self.inside.rest.from c.self.inside.rest.rows.items c.in_ok-taken.field-0.made.items
    (arrivals-batch c.self.inside.rest batch) each closes in
    let made = c.in_ok-taken.field-0.made.items in
    let may : MayGoOn c.args.line (offer_of 0 made w) = is-done c.settle-may.result _ (c.is_done.ensures.may c.if-not-is_done.false) (rw (c.new-offering.ensures, c.left-left.ensures) at c.settle-may.ensures.may) in
    let emits = rw same at c.hand_line.ensures.emits in
    let items = rw c.settle-may.ensures.entries at c.push.ensures.items in
    rw (← c.self.view_is, c.push.ensures.reserved, c.settle-may.ensures.reserved)
    (goes-on w c.args.line _ _ _ _ _ _ _ _ _ _ _ makes.becomes makes.closes (made-may c.args.line w 0 made _ makes may) (rest-dropped c.self.inside.rest _ c.args.line.rows batch c.drop_all.ensures)
    (made-filled c.args.line w 0 made _ makes) (same-behind w.refused _ makes.refused) (same-behind w.kept _ makes.kept) emits
    (ap (map without_room) (written-back _ _ _ len stays)) items c.stays_waved-self-inside.ensures)
