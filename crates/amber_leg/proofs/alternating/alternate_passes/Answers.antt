-- Pass after pass, each with a turn of the coordinator behind it.
use Rattle.std.proofs.Common.{◌≡◌, ◌+◌, ◌*◌, subst, arith}
use Rattle.amber_leg.specs.Driving.{HasDrivenAll}
use Rattle.amber_leg.proofs.Driven.{driven-heeded, driven-none, driven-then, drives-on, pass-more, passed}
use Rattle.amber_leg.proofs.alternating.alternate_passes.Goals as goal

pub drive_slices-requires : goal.drive_slices-requires
drive_slices-requires g c =
    let test = c.passes-test.true in
    record {
      may = drives-on c.args.shared.now.boards.now (c.args.budget.passes * c.args.budget.slice) (c.passes._made * c.args.budget.slice) c.args.budget.slice
          c.args.driver.now c.passes.driver (pass-more c.passes._made c.args.budget.passes c.args.budget.slice (omega arith)) c.requires.may c.passes.invariant.driven;
    }

pub passes-init : goal.passes-init
passes-init g c =
    let none : 0 ≡ 0 * c.args.budget.slice = omega arith in
    record {
      driven = subst (λ turns. HasDrivenAll turns c.args.shared.now.boards.now c.args.driver.now c.args.driver.now) none
          (driven-none c.args.shared.now.boards.now (c.args.budget.passes * c.args.budget.slice) c.args.driver.now c.requires.may);
      led = c.requires.led;
    }

pub returns-then-is_pausing-clause-driven : goal.returns-then-is_pausing-clause-driven
returns-then-is_pausing-clause-driven g c =
    let test = c.passes-test.true in
    passed c.args.shared.now.boards.now c.passes._made c.args.budget.passes c.args.budget.slice c.args.driver.now c.passes.driver c.drive_slices.new.driver (omega arith)
    c.passes.invariant.driven c.in_ok-pace.ensures.driven

pub heed_all-requires : goal.heed_all-requires
heed_all-requires g c =
    let test = c.passes-test.true in
    let made = c.passes._made * c.args.budget.slice in
    let more = pass-more c.passes._made c.args.budget.passes c.args.budget.slice (omega arith) in
    record {
      may = drives-on c.args.shared.now.boards.now (c.args.budget.passes * c.args.budget.slice) (made + c.args.budget.slice) 0 c.args.driver.now c.drive_slices.new.driver (omega (arith, more)) c.requires.may
          (driven-then c.args.shared.now.boards.now made c.args.budget.slice c.args.driver.now c.passes.driver c.drive_slices.new.driver c.passes.invariant.driven c.in_ok-pace.ensures.driven);
    }

pub returns-then-ne-clause-driven : goal.returns-then-ne-clause-driven
returns-then-ne-clause-driven g c =
    let test = c.passes-test.true in
    passed c.args.shared.now.boards.now c.passes._made c.args.budget.passes c.args.budget.slice c.args.driver.now c.passes.driver c.heed_all.new.driver (omega arith)
    c.passes.invariant.driven
    (driven-heeded c.args.shared.now.boards.now c.args.budget.slice c.passes.driver c.drive_slices.new.driver c.heed_all.new.driver c.in_ok-pace.ensures.driven c.in_ok-told.ensures.driven)

pub passes-preserved : goal.passes-preserved
passes-preserved g c =
    let made = c.passes._made * c.args.budget.slice in
    let next : made + c.args.budget.slice ≡ (c.passes._made + 1) * c.args.budget.slice = omega arith in
    record {
      driven = subst (λ turns. HasDrivenAll turns c.args.shared.now.boards.now c.args.driver.now c.heed_all.new.driver) next
          (driven-then c.args.shared.now.boards.now made c.args.budget.slice c.args.driver.now c.passes.driver c.heed_all.new.driver
          c.passes.invariant.driven
          (driven-heeded c.args.shared.now.boards.now c.args.budget.slice c.passes.driver c.drive_slices.new.driver c.heed_all.new.driver c.in_ok-pace.ensures.driven c.in_ok-told.ensures.driven));
      led = c.attend-heard.ensures.led;
    }
