-- Units are dealt with, and all streams are ended.
use Rattle.std.proofs.Common.{◌≡◌, false, ◌≤◌, ◌∙◌, length, map, ap, arith, refl}
use Rattle.amber_link.specs.Sides.{without_room}
use Rattle.amber_link.specs.declared.downstreams.Downstream.{Downstream}
use Rattle.amber_worker.proofs.Dealings.{ends-dealing}
use Rattle.amber_worker.proofs.Bounds.{few-dealt, few-done, few-sent, finishes, written-back}
use Rattle.amber_worker.proofs.Roomless.{still-all}
use Rattle.amber_worker.specs.WorkerState.{WorkerState}
use Rattle.amber_worker.proofs.Unchanged.{err_so, few-made, same-journal, same-outs, steps-few}
use Rattle.amber_worker.proofs.worker.Worker.finish.Goals as goal

pub invariant_of-self-in_err-end_streams : goal.invariant_of-self-in_err-end_streams
invariant_of-self-in_err-end_streams c =
    let lent = ap length c.as_mut_slice.ensures.value in
    let len : c.self.inside.outs.len ≡ length c.self.inside.outs.items = omega (arith, lent, c.as_mut_slice.ensures.len) in
    let stays : length c.end_streams.new.outs ≡ length c.self.inside.outs.items = omega (arith, lent, c.end_streams.auto.outs) in
    let same = c.in_err-end_streams.ensures.err ∙ ap (map without_room) c.as_mut_slice.ensures.value in
    rw (c.reserve.ensures.items, written-back _ _ _ len stays)
    (few-sent _ _ c.self.invariant
    (λ e. still-all (λ (one : Downstream). one.link.kept.made ≤ c.self.inside.emitted) c.self.inside.outs.items c.end_streams.new.outs same (c.self.invariant.sent e))
    (still-all (λ (one : Downstream). one.link.kept.ended ≡ c.self.inside.finished) c.self.inside.outs.items c.end_streams.new.outs same c.self.invariant.over))

pub invariant_of-self-2 : goal.invariant_of-self-2
invariant_of-self-2 c =
    let few = rw (← c.self.view_is) at c.requires.few in
    let lent = ap length c.as_mut_slice.ensures.value in
    let len : c.self.inside.outs.len ≡ length c.self.inside.outs.items = omega (arith, lent, c.as_mut_slice.ensures.len) in
    let stays : length c.end_streams.new.outs ≡ length c.self.inside.outs.items = omega (arith, lent, c.end_streams.auto.outs) in
    let running : c.self.inside.flags.paused ≡ false = ap (λ (w : WorkerState). w.restraint.paused) c.self.view_is ∙ c.requires.free.running in
    rw (c.push.ensures.items, written-back _ _ _ len stays)
    (few-done _ _ running (few-dealt _ c.args.how _ _ c.deal.ensures.deals c.reserve.ensures.items c.self.invariant) few c.in_ok-end_streams.ensures.ended)

pub returns-clause-ok : goal.returns-clause-ok
returns-clause-ok c =
    let lent = ap length c.as_mut_slice.ensures.value in
    let len : c.self.inside.outs.len ≡ length c.self.inside.outs.items = omega (arith, lent, c.as_mut_slice.ensures.len) in
    let stays : length c.end_streams.new.outs ≡ length c.self.inside.outs.items = omega (arith, lent, c.end_streams.auto.outs) in
    let ends = rw c.as_mut_slice.ensures.value at c.in_ok-end_streams.ensures.ends in
    let none = rw (← c.self.view_is) at c.requires.none in
    let used = rw (← c.self.view_is) at c.requires.used in
    let ended = rw (← c.self.view_is) at c.requires.ended in
    rw (← c.self.view_is, c.push.ensures.reserved, c.deal.ensures.reserved, c.reserve.ensures.reserved)
    (ends-dealing c.args.how _ _ refl (rw c.reserve.ensures.items at c.deal.ensures.deals) _
    (finishes _ _ _ c.push.new.self.entries none used ended ends (ap (map without_room) (written-back _ _ _ len stays)) c.push.ensures.items))

pub returns-in_err-reserve-clause-err : goal.returns-in_err-reserve-clause-err
returns-in_err-reserve-clause-err c = err_so c.from_residual.result _ (same-journal _ _ _ _ c.reserve.ensures.items c.reserve.ensures.reserved c.self.view_is)

pub returns-in_err-end_streams-clause-err : goal.returns-in_err-end_streams-clause-err
returns-in_err-end_streams-clause-err c =
    let lent = ap length c.as_mut_slice.ensures.value in
    let len : c.self.inside.outs.len ≡ length c.self.inside.outs.items = omega (arith, lent, c.as_mut_slice.ensures.len) in
    let stays : length c.end_streams.new.outs ≡ length c.self.inside.outs.items = omega (arith, lent, c.end_streams.auto.outs) in
    err_so c.from_residual-in_err-end_streams.result _
    (same-outs _ _ _ _ _ c.reserve.ensures.items c.reserve.ensures.reserved
    (ap (map without_room) (written-back _ _ _ len stays) ∙ c.in_err-end_streams.ensures.err ∙ ap (map without_room) c.as_mut_slice.ensures.value) c.self.view_is)

pub invariant_of-self : goal.invariant_of-self
invariant_of-self c = rw c.reserve.ensures.items c.self.invariant

pub end_streams-requires-clause-open : goal.end_streams-requires-clause-open
end_streams-requires-clause-open c =
    let unfinished : c.self.inside.finished ≡ false = ap (λ (w : WorkerState). w.finished) c.self.view_is ∙ c.requires.free.unfinished in
    rw c.as_mut_slice.ensures.value (λ k d there. c.self.invariant.over k d there ∙ unfinished)

pub end_streams-requires-clause-few : goal.end_streams-requires-clause-few
end_streams-requires-clause-few c =
    let unfinished : c.self.inside.finished ≡ false = ap (λ (w : WorkerState). w.finished) c.self.view_is ∙ c.requires.free.unfinished in
    rw c.as_mut_slice.ensures.value (few-made _ c.self.invariant unfinished (steps-few c.self.view_is c.requires.few))
