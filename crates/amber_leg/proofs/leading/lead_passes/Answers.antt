-- Pass after pass, each with a turn of the coordinator behind it.
use Rattle.std.proofs.Common.{◌≡◌, ◌+◌, ◌*◌, subst, arith}
use Rattle.amber_leg.specs.Driving.{HasDrivenAll}
use Rattle.amber_leg.proofs.Driven.{driven-none, driven-then, drives-on, pass-more, passed}
use Rattle.amber_leg.proofs.leading.lead_passes.Goals as goal

pub passes-init : goal.passes-init
passes-init g c =
    let none : 0 ≡ 0 * c.args.budget.slice = omega arith in
    record {
      driven = subst (λ turns. HasDrivenAll turns c.args.shared.now.boards.now c.args.driver.now c.args.driver.now) none
          (driven-none c.args.shared.now.boards.now (c.args.budget.passes * c.args.budget.slice) c.args.driver.now c.requires.may);
      led = c.requires.led;
    }

pub drive_slices-requires : goal.drive_slices-requires
drive_slices-requires g c =
    let test = c.passes-test.true in
    record {
      may = drives-on c.args.shared.now.boards.now (c.args.budget.passes * c.args.budget.slice) (c.passes._made * c.args.budget.slice) c.args.budget.slice
          c.args.driver.now c.passes.driver (pass-more c.passes._made c.args.budget.passes c.args.budget.slice (omega arith)) c.requires.may c.passes.invariant.driven;
    }

pub returns-in-Waits-2-clause-driven : goal.returns-in-Waits-2-clause-driven
returns-in-Waits-2-clause-driven g c =
    let test = c.passes-test.true in
    passed c.args.shared.now.boards.now c.passes._made c.args.budget.passes c.args.budget.slice c.args.driver.now c.passes.driver c.drive_slices.new.driver (omega arith)
    c.passes.invariant.driven c.in_ok-pace.ensures.driven

pub returns-in-Waits-2-2-clause-driven : goal.returns-in-Waits-2-2-clause-driven
returns-in-Waits-2-2-clause-driven g c =
    let test = c.passes-test.true in
    passed c.args.shared.now.boards.now c.passes._made c.args.budget.passes c.args.budget.slice c.args.driver.now c.passes.driver c.drive_slices.new.driver (omega arith)
    c.passes.invariant.driven c.in_ok-pace.ensures.driven

pub passes-preserved : goal.passes-preserved
passes-preserved g c =
    let made = c.passes._made * c.args.budget.slice in
    let next : made + c.args.budget.slice ≡ (c.passes._made + 1) * c.args.budget.slice = omega arith in
    record {
      driven = subst (λ turns. HasDrivenAll turns c.args.shared.now.boards.now c.args.driver.now c.drive_slices.new.driver) next
          (driven-then c.args.shared.now.boards.now made c.args.budget.slice c.args.driver.now c.passes.driver c.drive_slices.new.driver
          c.passes.invariant.driven c.in_ok-pace.ensures.driven);
      led = c.attend-heard.ensures.led;
    }
