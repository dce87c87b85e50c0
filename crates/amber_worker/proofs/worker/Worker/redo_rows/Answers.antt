-- The line was judged, and then done.
use Rattle.std.proofs.Common.{◌≡◌, ◌+◌, ◌++◌, [], false, ◌≤◌, ◌^◌, ◌∙◌, Option, drop, length, length-append, map, ap, refl, sym, arith, subst}
use Rattle.std.specs.Option.{IfSome, is_some}
use Rattle.std.proofs.lemmas.List.{length-take-le}
use Rattle.amber_link.specs.Sides.{without_room}
use Rattle.amber_link.specs.declared.downstreams.Downstream.{Downstream}
use Rattle.amber_scan.specs.Shares.{ShareState}
use Rattle.amber_worker.specs.contracts.worker.Worker.{the_view}
use Rattle.amber_operators.specs.Handed.{arrivals_in}
use Rattle.amber_operators.specs.ReadiedRows.{Reading, yielded_to}
use Rattle.amber_worker.specs.RedoneRows.{MayNotGo}
use Rattle.amber_operators.specs.Kept.{is_group}
use Rattle.amber_worker.specs.WorkerState.{WorkerState, steps_made}
use Rattle.amber_worker.proofs.Bounds.{few-sent, written-back}
use Rattle.amber_worker.proofs.FewRows.{few-rows}
use Rattle.amber_worker.proofs.LinesTaken.{apart-closes, apart-filled, apart-may, fed-becomes, goes-on, may-not, same-rest}
use Rattle.amber_worker.proofs.Roomless.{still-all}
use Rattle.amber_worker.proofs.Unchanged.{few-same}
use Rattle.amber_worker.proofs.worker.Worker.redo_rows.Goals as goal

pub returns-then-not-may_go-clause-ok : goal.returns-then-not-may_go-clause-ok
returns-then-not-may_go-clause-ok c =
    let how : Reading = record { count = c.args.line.rows; columns = c.side_columns-columns.result.now; builds = c.self.inside.building; state = c.self.inside.operator_state } in
    let ready = c.in_ok-readied.ensures.ok in
    let apart = ap (λ (w : WorkerState). is_group w.operator_state) c.self.view_is ∙ c.requires.apart in
    let judged = rw c.if-not-may_go.true at (c.may_go.ensures how refl refl ready) in
    let never = rw (c.ready_rows.ensures.same, c.side_columns-columns.ensures) at judged in
    (subst (MayNotGo c.args.line) c.self.view_is (may-not _ c.args.line apart never), same-rest _ _ _ c.ready_rows.ensures.same c.self.view_is)

pub invariant_of-self-in_err-room : goal.invariant_of-self-in_err-room
invariant_of-self-in_err-room c =
    let lent = ap length c.as_mut_slice-links.ensures.value in
    let len : c.self.inside.outs.len ≡ length c.self.inside.outs.items = omega (arith, lent, c.as_mut_slice-links.ensures.len) in
    let stays : length c.reserve_line.new.outs ≡ length c.self.inside.outs.items = omega (arith, lent, c.reserve_line.auto.outs) in
    let same = c.reserve_line.ensures.same_outs ∙ ap (map without_room) c.as_mut_slice-links.ensures.value in
    rw (c.reserve_line.ensures.entries, written-back _ _ _ len stays)
    (few-sent _ _ (few-same _ _ _ refl c.ready_rows.ensures.shares (rw c.side_columns-columns.ensures at c.ready_rows.ensures.typed) c.self.invariant)
    (λ e. still-all (λ (one : Downstream). one.link.kept.made ≤ c.self.inside.emitted) c.self.inside.outs.items c.reserve_line.new.outs same (c.self.invariant.sent e))
    (still-all (λ (one : Downstream). one.link.kept.ended ≡ c.self.inside.finished) c.self.inside.outs.items c.reserve_line.new.outs same c.self.invariant.over))

pub invariant_of-self-in_err-feed_rows : goal.invariant_of-self-in_err-feed_rows
invariant_of-self-in_err-feed_rows c =
    let lent = ap length c.as_mut_slice-links.ensures.value in
    let len : c.self.inside.outs.len ≡ length c.self.inside.outs.items = omega (arith, lent, c.as_mut_slice-links.ensures.len) in
    let stays : length c.reserve_line.new.outs ≡ length c.self.inside.outs.items = omega (arith, lent, c.reserve_line.auto.outs) in
    let same = c.reserve_line.ensures.same_outs ∙ ap (map without_room) c.as_mut_slice-links.ensures.value in
    let typed = subst (λ (o : Option ShareState). IfSome o (λ (share : ShareState). share.columns ≡ c.side_columns-columns.result.now)) (sym c.feed_rows.ensures.share) c.ready_rows.ensures.typed in
    rw (c.reserve_line.ensures.entries, written-back _ _ _ len stays)
    (few-sent _ _
    (few-same _ _ _ c.in_err-feed_rows.ensures.state_on_err (ap is_some c.feed_rows.ensures.share ∙ c.ready_rows.ensures.shares) (rw c.side_columns-columns.ensures at typed) c.self.invariant)
    (λ e. still-all (λ (one : Downstream). one.link.kept.made ≤ c.self.inside.emitted) c.self.inside.outs.items c.reserve_line.new.outs same (c.self.invariant.sent e))
    (still-all (λ (one : Downstream). one.link.kept.ended ≡ c.self.inside.finished) c.self.inside.outs.items c.reserve_line.new.outs same c.self.invariant.over))

pub take_rows-requires-clause-ready : goal.take_rows-requires-clause-ready
take_rows-requires-clause-ready c =
    let how : Reading = record { count = c.args.line.rows; columns = c.side_columns-columns.result.now; builds = c.self.inside.building; state = c.self.inside.operator_state } in
    let ready = c.in_ok-readied.ensures.ok in
    let fed = c.in_ok-feed_rows.ensures.ok c.self.inside.building ready in
    (how, c.ready_rows.new.rest, c.feed_rows.new.operator_state, refl, refl, ready, fed)

pub fill-requires : goal.fill-requires
fill-requires c =
    let how : Reading = record { count = c.args.line.rows; columns = c.side_columns-columns.result.now; builds = c.self.inside.building; state = c.self.inside.operator_state } in
    let ready = c.in_ok-readied.ensures.ok in
    let fed = c.in_ok-feed_rows.ensures.ok c.self.inside.building ready in
    let taken = c.take_rows.ensures.taken how c.ready_rows.new.rest c.feed_rows.new.operator_state refl refl ready fed in
    taken.same ∙ c.move_all.ensures.pending

pub emit_many-requires-clause-some : goal.emit_many-requires-clause-some
emit_many-requires-clause-some c =
    let how : Reading = record { count = c.args.line.rows; columns = c.side_columns-columns.result.now; builds = c.self.inside.building; state = c.self.inside.operator_state } in
    let ready = c.in_ok-readied.ensures.ok in
    let fed = c.in_ok-feed_rows.ensures.ok c.self.inside.building ready in
    let taken = c.take_rows.ensures.taken how c.ready_rows.new.rest c.feed_rows.new.operator_state refl refl ready fed in
    let made = yielded_to how (arrivals_in c.ready_rows.new.rest) in
    let moved = c.move_all.ensures.rows ∙ ap (λ l. l ++ c.reserve_line.new.gains.pending) c.in_ok-room.ensures.none ∙ c.reserve_line.ensures.same.pending in
    let filled = c.fill.ensures ∙ taken.pending ∙ ap (λ l. l ++ made) moved in
    let lengths = ap length filled ∙ length-append c.self.inside.gains.pending made in
    let may = rw c.if-not-may_go.false at (c.may_go.ensures how refl refl ready) in
    let produced = may.fits.produced in
    omega (arith, lengths, produced)

pub emit_many-requires-clause-few : goal.emit_many-requires-clause-few
emit_many-requires-clause-few c =
    let unfinished : c.self.inside.finished ≡ false = ap (λ (w : WorkerState). w.finished) c.self.view_is ∙ c.requires.unfinished in
    let steps = subst (λ w. steps_made w + (c.args.line.rows + c.args.line.outs) ≤ 2 ^ 40) (sym c.self.view_is) c.requires.few in
    let same = c.reserve_line.ensures.same_outs ∙ ap (map without_room) c.as_mut_slice-links.ensures.value in
    still-all (λ (one : Downstream). one.link.kept.made + c.args.line.outs ≤ 2 ^ 40) c.self.inside.outs.items c.reserve_line.new.outs same
    (λ k d less. let h = c.self.invariant.sent unfinished k d less in omega (arith, h, steps))

pub invariant_of-self-2 : goal.invariant_of-self-2
invariant_of-self-2 c =
    let how : Reading = record { count = c.args.line.rows; columns = c.side_columns-columns.result.now; builds = c.self.inside.building; state = c.self.inside.operator_state } in
    let ready = c.in_ok-readied.ensures.ok in
    let fed = c.in_ok-feed_rows.ensures.ok c.self.inside.building ready in
    let lent = ap length c.as_mut_slice-links.ensures.value in
    let len : c.self.inside.outs.len ≡ length c.self.inside.outs.items = omega (arith, lent, c.as_mut_slice-links.ensures.len) in
    let stays : length c.emit_many.new.outs ≡ length c.self.inside.outs.items = omega (arith, lent, c.reserve_line.auto.outs, c.emit_many.auto.outs) in
    let same = c.reserve_line.ensures.same_outs ∙ ap (map without_room) c.as_mut_slice-links.ensures.value in
    let steps = subst (λ w. steps_made w + (c.args.line.rows + c.args.line.outs) ≤ 2 ^ 40) (sym c.self.view_is) c.requires.few in
    let unfinished : c.self.inside.finished ≡ false = ap (λ (w : WorkerState). w.finished) c.self.view_is ∙ c.requires.unfinished in
    let becomes = fed-becomes how c.ready_rows.new.rest c.feed_rows.new.rest c.feed_rows.new.operator_state c.in_ok-readied.readied ready fed in
    let left = ap length c.ready_rows.ensures.same in
    let long = length-take-le c.args.line.rows (arrivals_in c.ready_rows.new.rest) (omega (arith, c.if-rows-left.false, c.left.ensures, left)) in
    let typed = subst (λ (o : Option ShareState). IfSome o (λ (share : ShareState). share.columns ≡ c.side_columns-columns.result.now)) (sym c.feed_rows.ensures.share) c.ready_rows.ensures.typed in
    rw (c.push.ensures.items, c.reserve_line.ensures.entries, written-back _ _ _ len stays)
    (few-rows _ c.args.line.rows c.args.line.outs c.feed_rows.new.operator_state _ _ c.take_rows.new.rest.share c.emit_many.new.outs unfinished c.self.invariant becomes long (omega (arith, steps))
    (c.take_rows.ensures.shares ∙ ap is_some c.feed_rows.ensures.share ∙ c.ready_rows.ensures.shares) (rw c.side_columns-columns.ensures at (c.take_rows.ensures.typed typed))
    (λ n h. c.emit_many.ensures.few n (still-all (λ (one : Downstream). one.link.kept.made ≤ n) c.self.inside.outs.items c.reserve_line.new.outs same h)) c.emit_many.ensures.«open»)

pub returns-clause-ok : goal.returns-clause-ok
returns-clause-ok c =
    let w : WorkerState = the_view c.self.inside in
    let how : Reading = record { count = c.args.line.rows; columns = c.side_columns-columns.result.now; builds = c.self.inside.building; state = c.self.inside.operator_state } in
    let ready = c.in_ok-readied.ensures.ok in
    let fed = c.in_ok-feed_rows.ensures.ok c.self.inside.building ready in
    let taken = c.take_rows.ensures.taken how c.ready_rows.new.rest c.feed_rows.new.operator_state refl refl ready fed in
    let lent = ap length c.as_mut_slice-links.ensures.value in
    let len : c.self.inside.outs.len ≡ length c.self.inside.outs.items = omega (arith, lent, c.as_mut_slice-links.ensures.len) in
    let stays : length c.emit_many.new.outs ≡ length c.self.inside.outs.items = omega (arith, lent, c.reserve_line.auto.outs, c.emit_many.auto.outs) in
    let same = c.reserve_line.ensures.same_outs ∙ ap (map without_room) c.as_mut_slice-links.ensures.value in
    let made = yielded_to how (arrivals_in c.ready_rows.new.rest) in
    let moved = c.move_all.ensures.rows ∙ ap (λ l. l ++ c.reserve_line.new.gains.pending) c.in_ok-room.ensures.none ∙ c.reserve_line.ensures.same.pending in
    let filled = c.fill.ensures ∙ taken.pending ∙ ap (λ l. l ++ made) moved in
    let apart = ap (λ (w : WorkerState). is_group w.operator_state) c.self.view_is ∙ c.requires.apart in
    let becomes = rw (c.ready_rows.ensures.same, c.side_columns-columns.ensures) at (fed-becomes how c.ready_rows.new.rest c.feed_rows.new.rest c.feed_rows.new.operator_state c.in_ok-readied.readied ready fed) in
    let all = rw (c.ready_rows.ensures.same, c.side_columns-columns.ensures) at filled in
    let judged = rw c.if-not-may_go.false at (c.may_go.ensures how refl refl ready) in
    let may = rw (c.ready_rows.ensures.same, c.side_columns-columns.ensures) at judged in
    let left = taken.left ∙ ap (drop c.args.line.rows) c.ready_rows.ensures.same in
    let refused = rw (c.ready_rows.ensures.same, c.reserve_line.ensures.same.refused) at taken.refused in
    let kept = rw (c.ready_rows.ensures.same, c.side_columns-columns.ensures, c.reserve_line.ensures.same.kept) at taken.kept in
    let emits = rw same at c.emit_many.ensures.emits in
    let items = rw c.reserve_line.ensures.entries at c.push.ensures.items in
    rw (← c.self.view_is, c.push.ensures.reserved, c.reserve_line.ensures.reserved)
    (goes-on w c.args.line c.feed_rows.new.operator_state [] _ _ _ _ _ _ _ _ _ becomes (apart-closes w c.args.line c.feed_rows.new.operator_state apart becomes) (apart-may w c.args.line may) left
    (apart-filled w c.args.line _ all) refused kept emits (ap (map without_room) (written-back _ _ _ len stays)) items c.stays_waved-self-inside.ensures)
