-- Units are dealt with, and a batch is taken.
use Rattle.std.proofs.Common.{◌≡◌, [], if◌then◌else◌, true, ◌&&◌, Bool, false, eqb, get_or, subst, ◌<◌, ◌^◌, ◌∙◌, length, ap, arith, rules, refl, sym}
use Rattle.amber_link.specs.Links.{has_some, starts_empty, waiting}
use Rattle.amber_link.specs.Sides.{IsLooked, have_all_ended}
use Rattle.amber_link.specs.declared.upstreams.Upstream.{Upstream}
use Rattle.amber_link.proofs.Sides.{looked-same, pairwise-refl}
use Rattle.amber_worker.specs.Links.{MayTakeAt}
use Rattle.amber_worker.specs.WorkerState.{WorkerState, has_ready}
use Rattle.amber_link.proofs.LinkEnds.{none-first}
use Rattle.amber_worker.proofs.Others.{others-pass}
use Rattle.amber_worker.proofs.Dealings.{takes-dealing}
use Rattle.amber_worker.proofs.Bounds.{few-batch, few-dealt, no-share, takes-batch, written-back}
use Rattle.amber_worker.proofs.Unchanged.{err_so, few-taken, same-journal, steps-few}
use Rattle.amber_worker.proofs.worker.Worker.take_from.Goals as goal

and-true : (b : Bool) → (b && true) ≡ b
and-true true = refl
and-true false = refl

pub invariant_of-self-in_err-last : goal.invariant_of-self-in_err-last
invariant_of-self-in_err-last c = rw c.reserve.ensures.items c.self.invariant

pub invariant_of-self-2 : goal.invariant_of-self-2
invariant_of-self-2 c =
    let few = steps-few c.self.view_is c.requires.few in
    let there : c.args.place < length c.self.inside.ins.items = subst (λ (w : WorkerState). c.args.place < length w.ins) (sym c.self.view_is) c.requires.there in
    let lent = ap length c.as_mut_slice.ensures.value in
    let len : c.self.inside.ins.len ≡ length c.self.inside.ins.items = omega (arith, lent, c.as_mut_slice.ensures.len) in
    let stays : length c.take_at-from.new.ins ≡ length c.self.inside.ins.items = omega (arith, lent, c.take_at-from.auto.ins) in
    rw (c.turn_to.ensures, c.push.ensures.items, written-back _ _ _ len stays)
    (few-batch _ _ _ _ c.args.place _ _ _ _ (rw c.as_mut_slice.ensures.value at c.take_at-from.ensures.taken) refl refl
    (few-dealt _ c.args.how _ _ c.deal.ensures.deals c.reserve.ensures.items c.self.invariant) few there
    (c.take_at-from.ensures.few c.self.inside.batches (rw c.as_mut_slice.ensures.value c.self.invariant.received)))

pub returns-clause-ok : goal.returns-clause-ok
returns-clause-ok c =
    let from_small : c.take_at-from.result.from < 2 ^ 32 = search rules in
    let seq_small : c.take_at-from.result.seq < 2 ^ 64 = search rules in
    let there : c.args.place < length c.self.inside.ins.items = subst (λ (w : WorkerState). c.args.place < length w.ins) (sym c.self.view_is) c.requires.there in
    let ready : has_ready c.self.inside.ins.items ≡ true = ap (λ (w : WorkerState). has_ready w.ins) c.self.view_is ∙ c.requires.ready in
    let lent = ap length c.as_mut_slice.ensures.value in
    let len : c.self.inside.ins.len ≡ length c.self.inside.ins.items = omega (arith, lent, c.as_mut_slice.ensures.len) in
    let stays : length c.take_at-from.new.ins ≡ length c.self.inside.ins.items = omega (arith, lent, c.take_at-from.auto.ins) in
    let d : Upstream = c.take_at-from.ensures.taken.0 in
    let before = rw c.as_slice.ensures.value at c.closes_at-asked.ensures in
    let after = rw c.as_mut_slice.ensures.value at c.take_at-from.ensures.empty in
    let none = rw (← c.self.view_is) at c.requires.none in
    let used = rw (← c.self.view_is) at c.requires.used in
    rw (← c.self.view_is, c.push.ensures.reserved, c.deal.ensures.reserved, c.reserve.ensures.reserved)
    (takes-dealing c.args.how _ _ refl (rw c.reserve.ensures.items at c.deal.ensures.deals) _
    (takes-batch _ c.take_at-from.result.from c.take_at-from.result.seq c.take_at-from.result.builds c.take_at-from.result.batch c.self.inside.ins.items c.take_at-from.new.ins _ _ _
    c.turn_to.new.operator_state c.in_ok-last.last.items c.close.new.pending (eqb (length c.take_at-from.result.batch.rows) 0) c.closes_at-asked.result (have_all_ended c.take_at-from.new.ins) none used
    (rw c.as_mut_slice.ensures.value at c.take_at-from.ensures.taken) (pairwise-refl IsLooked looked-same c.self.inside.ins.items) ready from_small seq_small
    (rw (no-share _ _ c.args.place c.self.invariant.shares there, c.replace-emptied.ensures.after, c.from_vec-rows.ensures.items, c.into_inner.ensures) refl)
    (written-back _ _ _ len stays)
    c.push.ensures.items
    c.turn_to.ensures refl refl
    (λ all. before d ∙ ap (λ b. starts_empty (waiting (get_or c.self.inside.ins.items c.args.place d).link) && b)
    (others-pass (λ (one : Upstream). one.ended) c.self.inside.ins.items c.take_at-from.new.ins c.args.place stays (rw c.as_mut_slice.ensures.value at c.take_at-from.ensures.others) all)
    ∙ and-true _ ∙ after d)
    c.in_ok-last.ensures (c.close.ensures ∙ ap (λ ins. if have_all_ended ins then c.in_ok-last.last.items else []) (c.as_slice-2.ensures.value ∙ written-back _ _ _ len stays))))

pub returns-clause-others : goal.returns-clause-others
returns-clause-others c =
    let lent = ap length c.as_mut_slice.ensures.value in
    let len : c.self.inside.ins.len ≡ length c.self.inside.ins.items = omega (arith, lent, c.as_mut_slice.ensures.len) in
    let stays : length c.take_at-from.new.ins ≡ length c.self.inside.ins.items = omega (arith, lent, c.take_at-from.auto.ins) in
    rw (← c.self.view_is, written-back _ _ _ len stays) (rw c.as_mut_slice.ensures.value at c.take_at-from.ensures.others)

pub returns-in_err-reserve-clause-err : goal.returns-in_err-reserve-clause-err
returns-in_err-reserve-clause-err c = err_so c.from_residual.result _ (same-journal _ _ _ _ c.reserve.ensures.items c.reserve.ensures.reserved c.self.view_is)

pub returns-in_err-last-clause-err : goal.returns-in_err-last-clause-err
returns-in_err-last-clause-err c = err_so c.from_residual-in_err-last.result _ (same-journal _ _ _ _ c.reserve.ensures.items c.reserve.ensures.reserved c.self.view_is)

pub invariant_of-self : goal.invariant_of-self
invariant_of-self c = rw c.reserve.ensures.items c.self.invariant

pub take_at-from-requires-clause-there : goal.take_at-from-requires-clause-there
take_at-from-requires-clause-there c = rw c.as_mut_slice.ensures.value (subst (λ (w : WorkerState). c.args.place < length w.ins) (sym c.self.view_is) c.requires.there)

pub take_at-from-requires-clause-ready : goal.take_at-from-requires-clause-ready
take_at-from-requires-clause-ready c = rw c.as_mut_slice.ensures.value (subst (λ (w : WorkerState). MayTakeAt w.ins c.args.place) (sym c.self.view_is) c.requires.from)

pub take_at-from-requires-clause-few : goal.take_at-from-requires-clause-few
take_at-from-requires-clause-few c = rw c.as_mut_slice.ensures.value (few-taken _ c.self.invariant)

pub close-requires : goal.close-requires
close-requires c = record { none = none-first c.self.inside.gains.pending (ap (λ (w : WorkerState). has_some w.pending) c.self.view_is ∙ c.requires.none) }
