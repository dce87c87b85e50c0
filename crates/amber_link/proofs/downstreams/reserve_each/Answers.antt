-- One more has room.
use Rattle.std.proofs.Common.{◌∙◌, ap, arith, get_or}
use Rattle.std.proofs.lemmas.Grind.{common_steps}
use Rattle.amber_link.specs.declared.downstreams.Downstream.{Downstream}
use Rattle.amber_link.proofs.Sides.{get_or-any, reserved-at}
use Rattle.amber_link.proofs.downstreams.reserve_each.Goals as goal

pub loop-i-preserved : goal.loop-i-preserved
loop-i-preserved c =
    let outs = c.loop-i.outs in
    let place = c.loop-i.i in
    let one = c.index-outs-i.result in
    let there = λ (d : Downstream). get_or-any outs place one d (omega (arith, c.loop-i.auto.outs, c.loop-i-test.true)) in
    let now : Downstream = record { to = (get_or outs place one).to; link = c.reserve.new.self } in
    record {
      same = reserved-at outs place now
          (λ d. ap (λ (r : Downstream). r.to) (there d))
          (λ d. c.reserve.ensures.ring ∙ ap (λ (r : Downstream). r.link.ring) (there d))
          (λ d. c.reserve.ensures.only ∙ ap (λ (r : Downstream). record r.link.kept { room = c.reserve.new.self.kept.room }) (there d)) ∙ c.loop-i.invariant.same;
      roomy = λ k d less. grind (arith, common_steps, c.loop-i.invariant.roomy k d, c.in_ok-reserve.ensures.ok);
      unended = λ k d less. grind (arith, common_steps, c.loop-i.invariant.unended k d, c.reserve.ensures.only);
      one_each = grind (arith, common_steps, c.loop-i.invariant.one_each);
    }
