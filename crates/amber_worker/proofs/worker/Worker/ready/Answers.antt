-- A look for batches.
use Rattle.std.proofs.Common.{◌≡◌, ◌∙◌, length, get_or, true, false, ap, sym, arith, subst}
use Rattle.std.specs.List.{list_any}
use Rattle.std.specs.Option.{IfNone, IfSome}
use Rattle.amber_link.specs.Sides.{have_builders_ended, may_come}
use Rattle.amber_link.specs.declared.upstreams.Upstream.{Upstream}
use Rattle.amber_worker.proofs.Bounds.{few-settled, written-back}
use Rattle.amber_worker.proofs.Looks.{looked-built, looked-few}
use Rattle.amber_worker.proofs.worker.Worker.ready.Goals as goal

len : (c : goal.After-self-1) → c.self.inside.ins.len ≡ length c.self.inside.ins.items
len c = let lent = ap length c.as_mut_slice.ensures.value in omega (arith, lent, c.as_mut_slice.ensures.len)

stays : (c : goal.After-self-1) → length c.ready_place.new.ins ≡ length c.self.inside.ins.items
stays c = let lent = ap length c.as_mut_slice.ensures.value in omega (arith, lent, c.ready_place.auto.ins)

built : (c : goal.After-self-1) → c.have_built-built.result ≡ have_builders_ended c.ready_place.new.ins
built c =
    let looked = rw c.as_mut_slice.ensures.value at c.ready_place.ensures.looked in
    c.have_built-built.ensures ∙ ap have_builders_ended c.as_slice.ensures.value ∙ sym (looked-built c.self.inside.ins.items c.ready_place.new.ins looked)

pub invariant_of-self : goal.invariant_of-self
invariant_of-self c =
    let looked = rw c.as_mut_slice.ensures.value at c.ready_place.ensures.looked in
    rw (written-back _ _ _ (len c) (stays c))
    (few-settled _ _ c.self.invariant (stays c) (looked-few c.self.inside.batches c.self.inside.ins.items c.ready_place.new.ins looked c.self.invariant.received)
    (looked-built c.self.inside.ins.items c.ready_place.new.ins looked))

pub returns-clause-none : goal.returns-clause-none
returns-clause-none c =
    rw (written-back _ _ _ (len c) (stays c)) (subst (λ b. IfNone c.ready_place.result (list_any (may_come b) c.ready_place.new.ins ≡ false)) (built c) c.ready_place.ensures.none)

pub returns-clause-some : goal.returns-clause-some
returns-clause-some c =
    rw (written-back _ _ _ (len c) (stays c)) (subst (λ b. IfSome c.ready_place.result (λ _. list_any (may_come b) c.ready_place.new.ins ≡ true)) (built c) c.ready_place.ensures.some)

pub returns-clause-may : goal.returns-clause-may
returns-clause-may c =
    rw (written-back _ _ _ (len c) (stays c))
    (subst (λ b. IfSome c.ready_place.result (λ i. (d : Upstream) → may_come b (get_or c.ready_place.new.ins i d) ≡ true)) (built c) c.ready_place.ensures.ready)
