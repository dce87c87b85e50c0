-- One more was looked at.
use Rattle.std.proofs.Common.{◌∙◌, ◌<◌, ap, arith, get_or-set_same, set, length, subst, sym}
use Rattle.std.proofs.lemmas.Grind.{common_steps}
use Rattle.std.proofs.lemmas.List.{length-set}
use Rattle.amber_link.specs.Sides.{IsLooked, comes_next}
use Rattle.amber_link.proofs.Sides.{get_or-any, looked-at, looked-same, none-any, pairwise-refl, some-any}
use Rattle.amber_link.proofs.upstreams.next_place.Goals as goal

pub loop-i-init : goal.loop-i-init
loop-i-init c = record { looked = pairwise-refl IsLooked looked-same c.args.ins.now; none = λ k d less. absurd (omega arith) }

pub returns-then-comes_next-clause-looked : goal.returns-then-comes_next-clause-looked
returns-then-comes_next-clause-looked c =
    looked-at c.args.ins.now c.loop-i.ins c.loop-i.i c.comes_next.new.self c.loop-i.invariant.looked (omega (arith, c.loop-i.auto.ins, c.loop-i-test.true))
    (λ d. subst (λ one. IsLooked one c.comes_next.new.self) (get_or-any c.loop-i.ins c.loop-i.i c.index-ins-i.result d (omega (arith, c.loop-i.auto.ins, c.loop-i-test.true))) c.comes_next.ensures.looked)

pub returns-then-comes_next-clause-next : goal.returns-then-comes_next-clause-next
returns-then-comes_next-clause-next c = λ d.
    ap (comes_next c.args.built c.args.from c.args.number) (get_or-set_same c.loop-i.ins c.loop-i.i c.comes_next.new.self d (omega (arith, c.loop-i.auto.ins, c.loop-i-test.true))) ∙ sym c.comes_next.ensures.next ∙ c.if-comes_next.true

pub loop-i-preserved : goal.loop-i-preserved
loop-i-preserved c = record {
  looked = looked-at c.args.ins.now c.loop-i.ins c.loop-i.i c.comes_next.new.self c.loop-i.invariant.looked (omega (arith, c.loop-i.auto.ins, c.loop-i-test.true))
      (λ d. subst (λ one. IsLooked one c.comes_next.new.self) (get_or-any c.loop-i.ins c.loop-i.i c.index-ins-i.result d (omega (arith, c.loop-i.auto.ins, c.loop-i-test.true))) c.comes_next.ensures.looked);
  none = λ k d less. grind (arith, common_steps, c.loop-i.invariant.none k d, c.comes_next.ensures.next, c.if-comes_next.false);
}

pub returns-clause-none : goal.returns-clause-none
returns-clause-none c = none-any (comes_next c.args.built c.args.from c.args.number) c.loop-i.ins (λ k d less. c.loop-i.invariant.none k d (omega (arith, c.loop-i.auto.ins, c.loop-i-test.false)))
