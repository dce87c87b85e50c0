-- One more was looked at.
use Rattle.std.proofs.Common.{◌∙◌, ◌<◌, ap, arith, get_or-set_same, set, length, subst, sym}
use Rattle.std.proofs.lemmas.Grind.{common_steps}
use Rattle.std.proofs.lemmas.List.{length-set}
use Rattle.amber_link.specs.Sides.{IsLooked, may_come}
use Rattle.amber_link.proofs.Sides.{get_or-any, looked-at, looked-same, none-any, pairwise-refl, some-any}
use Rattle.amber_link.proofs.upstreams.ready_place.Goals as goal

pub loop-i-init : goal.loop-i-init
loop-i-init c = record { looked = pairwise-refl IsLooked looked-same c.args.ins.now; none = λ k d less. absurd (omega arith) }

pub returns-then-is_ready-clause-looked : goal.returns-then-is_ready-clause-looked
returns-then-is_ready-clause-looked c =
    looked-at c.args.ins.now c.loop-i.ins c.loop-i.i c.is_ready.new.self c.loop-i.invariant.looked (omega (arith, c.loop-i.auto.ins, c.loop-i-test.true))
    (λ d. subst (λ one. IsLooked one c.is_ready.new.self) (get_or-any c.loop-i.ins c.loop-i.i c.index-ins-i.result d (omega (arith, c.loop-i.auto.ins, c.loop-i-test.true))) c.is_ready.ensures.looked)

pub returns-then-is_ready-clause-some : goal.returns-then-is_ready-clause-some
returns-then-is_ready-clause-some c =
    let less : c.loop-i.i < length (set c.loop-i.ins c.loop-i.i c.is_ready.new.self) = rw length-set (omega (arith, c.loop-i.auto.ins, c.loop-i-test.true)) in
    some-any (may_come c.args.built) (set c.loop-i.ins c.loop-i.i c.is_ready.new.self) c.loop-i.i less
    (λ d. ap (may_come c.args.built) (get_or-set_same c.loop-i.ins c.loop-i.i c.is_ready.new.self d (omega (arith, c.loop-i.auto.ins, c.loop-i-test.true))) ∙ sym c.is_ready.ensures.ready ∙ c.if-is_ready.true)

pub loop-i-preserved : goal.loop-i-preserved
loop-i-preserved c = record {
  looked = looked-at c.args.ins.now c.loop-i.ins c.loop-i.i c.is_ready.new.self c.loop-i.invariant.looked (omega (arith, c.loop-i.auto.ins, c.loop-i-test.true))
      (λ d. subst (λ one. IsLooked one c.is_ready.new.self) (get_or-any c.loop-i.ins c.loop-i.i c.index-ins-i.result d (omega (arith, c.loop-i.auto.ins, c.loop-i-test.true))) c.is_ready.ensures.looked);
  none = λ k d less. grind (arith, common_steps, c.loop-i.invariant.none k d, c.is_ready.ensures.ready, c.if-is_ready.false);
}

pub returns-clause-none : goal.returns-clause-none
returns-clause-none c = none-any (may_come c.args.built) c.loop-i.ins (λ k d less. c.loop-i.invariant.none k d (omega (arith, c.loop-i.auto.ins, c.loop-i-test.false)))
