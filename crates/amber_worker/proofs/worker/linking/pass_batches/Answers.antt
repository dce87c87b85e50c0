-- What is kept of the ends alone changes.
use Rattle.std.proofs.Common.{◌≡◌, ◌∙◌, length, eqb, ap, sym, refl, subst, arith}
use Rattle.std.specs.List.{list_any}
use Rattle.amber_link.specs.Sides.{have_builders_ended}
use Rattle.amber_link.specs.declared.upstreams.Upstream.{Upstream}
use Rattle.amber_link.specs.declared.downstreams.Downstream.{Downstream}
use Rattle.amber_worker.specs.Links.{AreEndsOf}
use Rattle.amber_worker.proofs.Bounds.{few-sent, few-settled, written-back}
use Rattle.amber_worker.proofs.PairFacts.{ends-of}
use Rattle.amber_worker.proofs.Roomless.{same-receivers}
use Rattle.amber_worker.proofs.worker.linking.pass_batches.Goals as goal

pub settle_into-requires-clause-sends : goal.settle_into-requires-clause-sends
settle_into-requires-clause-sends c =
    let sends = rw (← c.from.view_is, ← c.to.view_is) at c.requires.sends in
    ap (λ outs. list_any (λ (one : Downstream). eqb one.to c.to.inside.number) outs) c.as_mut_slice.ensures.value ∙ same-receivers c.to.inside.number c.from.inside.outs.items ∙ sends

pub settle_into-requires-clause-receives : goal.settle_into-requires-clause-receives
settle_into-requires-clause-receives c =
    let receives = rw (← c.from.view_is, ← c.to.view_is) at c.requires.receives in
    ap (λ ins. list_any (λ (one : Upstream). eqb one.from c.from.inside.number) ins) c.as_mut_slice-2.ensures.value ∙ receives

pub settle_into-requires-clause-joined : goal.settle_into-requires-clause-joined
settle_into-requires-clause-joined c =
    let joined = rw (← c.from.view_is, ← c.to.view_is) at c.requires.joined in
    subst (λ outs. AreEndsOf c.from.inside.number c.to.inside.number outs c.as_mut_slice-2.result.now) (sym c.as_mut_slice.ensures.value)
    (subst (λ ins. AreEndsOf c.from.inside.number c.to.inside.number c.from.inside.outs.items ins) (sym c.as_mut_slice-2.ensures.value)
    (ends-of _ _ c.from.inside.outs.items refl joined))

pub invariant_of-from : goal.invariant_of-from
invariant_of-from c =
    let lent = ap length c.as_mut_slice.ensures.value in
    let len : c.from.inside.outs.len ≡ length c.from.inside.outs.items = omega (arith, lent, c.as_mut_slice.ensures.len) in
    let stays : length c.settle_into.new.outs ≡ length c.from.inside.outs.items = omega (arith, lent, c.settle_into.auto.outs) in
    rw (written-back _ _ _ len stays)
    (few-sent _ _ c.from.invariant
    (λ e. c.settle_into.ensures.made c.from.inside.emitted (rw c.as_mut_slice.ensures.value (c.from.invariant.sent e)))
    (c.settle_into.ensures.ended c.from.inside.finished (rw c.as_mut_slice.ensures.value c.from.invariant.over)))

pub invariant_of-to : goal.invariant_of-to
invariant_of-to c =
    let lent = ap length c.as_mut_slice-2.ensures.value in
    let len : c.to.inside.ins.len ≡ length c.to.inside.ins.items = omega (arith, lent, c.as_mut_slice-2.ensures.len) in
    let stays : length c.settle_into.new.ins ≡ length c.to.inside.ins.items = omega (arith, lent, c.settle_into.auto.ins) in
    rw (written-back _ _ _ len stays)
    (few-settled _ _ c.to.invariant stays (c.settle_into.ensures.taken c.to.inside.batches (rw c.as_mut_slice-2.ensures.value c.to.invariant.received))
    (c.settle_into.ensures.built ∙ ap have_builders_ended c.as_mut_slice-2.ensures.value))

pub returns-clause-passes : goal.returns-clause-passes
returns-clause-passes c =
    let lent_outs = ap length c.as_mut_slice.ensures.value in
    let len_outs : c.from.inside.outs.len ≡ length c.from.inside.outs.items = omega (arith, lent_outs, c.as_mut_slice.ensures.len) in
    let outs_stay : length c.settle_into.new.outs ≡ length c.from.inside.outs.items = omega (arith, lent_outs, c.settle_into.auto.outs) in
    let lent_ins = ap length c.as_mut_slice-2.ensures.value in
    let len_ins : c.to.inside.ins.len ≡ length c.to.inside.ins.items = omega (arith, lent_ins, c.as_mut_slice-2.ensures.len) in
    let ins_stay : length c.settle_into.new.ins ≡ length c.to.inside.ins.items = omega (arith, lent_ins, c.settle_into.auto.ins) in
    let passes = rw (c.as_mut_slice.ensures.value, c.as_mut_slice-2.ensures.value) at c.settle_into.ensures.passes in
    rw (← c.from.view_is, ← c.to.view_is, written-back _ _ _ len_outs outs_stay, written-back _ _ _ len_ins ins_stay) passes

pub returns-clause-from : goal.returns-clause-from
returns-clause-from c = rw (← c.from.view_is) refl

pub returns-clause-to : goal.returns-clause-to
returns-clause-to c = rw (← c.to.view_is) refl
