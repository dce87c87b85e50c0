-- A look for a batch.
use Rattle.std.proofs.Common.{◌≡◌, ◌∙◌, length, get_or, true, false, ap, sym, arith, subst}
use Rattle.std.specs.List.{list_any}
use Rattle.std.specs.Option.{IfNone, IfSome}
use Rattle.amber_link.specs.Sides.{comes_next, have_builders_ended}
use Rattle.amber_link.specs.declared.upstreams.Upstream.{Upstream}
use Rattle.amber_worker.proofs.Bounds.{few-settled, written-back}
use Rattle.amber_worker.proofs.Looks.{looked-built, looked-few}
use Rattle.amber_worker.proofs.worker.Worker.next_from.Goals as goal

len : (c : goal.After-self-1) → c.self.inside.ins.len ≡ length c.self.inside.ins.items
len c = let lent = ap length c.as_mut_slice.ensures.value in omega (arith, lent, c.as_mut_slice.ensures.len)

stays : (c : goal.After-self-1) → length c.next_place.new.ins ≡ length c.self.inside.ins.items
stays c = let lent = ap length c.as_mut_slice.ensures.value in omega (arith, lent, c.next_place.auto.ins)

built : (c : goal.After-self-1) → c.have_built-built.result ≡ have_builders_ended c.next_place.new.ins
built c =
    let looked = rw c.as_mut_slice.ensures.value at c.next_place.ensures.looked in
    c.have_built-built.ensures ∙ ap have_builders_ended c.as_slice.ensures.value ∙ sym (looked-built c.self.inside.ins.items c.next_place.new.ins looked)

pub invariant_of-self : goal.invariant_of-self
invariant_of-self c =
    let looked = rw c.as_mut_slice.ensures.value at c.next_place.ensures.looked in
    rw (written-back _ _ _ (len c) (stays c))
    (few-settled _ _ c.self.invariant (stays c) (looked-few c.self.inside.batches c.self.inside.ins.items c.next_place.new.ins looked c.self.invariant.received)
    (looked-built c.self.inside.ins.items c.next_place.new.ins looked))

pub returns-clause-none : goal.returns-clause-none
returns-clause-none c =
    rw (written-back _ _ _ (len c) (stays c))
    (subst (λ b. IfNone c.next_place.result (list_any (comes_next b c.args.from c.args.number) c.next_place.new.ins ≡ false)) (built c) c.next_place.ensures.none)

pub returns-clause-next : goal.returns-clause-next
returns-clause-next c =
    rw (written-back _ _ _ (len c) (stays c))
    (subst (λ b. IfSome c.next_place.result (λ i. (d : Upstream) → comes_next b c.args.from c.args.number (get_or c.next_place.new.ins i d) ≡ true)) (built c) c.next_place.ensures.next)
