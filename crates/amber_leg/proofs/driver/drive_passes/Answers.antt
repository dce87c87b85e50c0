-- Pass after pass, until none moves.
use Rattle.std.proofs.Common.{◌≡◌, ◌+◌, ◌*◌, subst, arith}
use Rattle.amber_leg.specs.Driving.{HasDrivenAll}
use Rattle.amber_leg.proofs.Driven.{driven-none, driven-then, drives-on, pass-more, passed}
use Rattle.amber_leg.proofs.driver.drive_passes.Goals as goal

pub passes-init : goal.passes-init
passes-init g c =
    let none : 0 ≡ 0 * c.args.shared.now.budget.slice = omega arith in
    record {
      driven = subst (λ turns. HasDrivenAll turns c.args.shared.now.boards.now c.args.driver.now c.args.driver.now) none
          (driven-none c.args.shared.now.boards.now (c.args.shared.now.budget.passes * c.args.shared.now.budget.slice) c.args.driver.now c.requires.may);
    }

pub drive_slices-requires : goal.drive_slices-requires
drive_slices-requires g c =
    let test = c.passes-test.true in
    record {
      may = drives-on c.args.shared.now.boards.now (c.args.shared.now.budget.passes * c.args.shared.now.budget.slice) (c.passes.made * c.args.shared.now.budget.slice) c.args.shared.now.budget.slice
          c.args.driver.now c.passes.driver (pass-more c.passes.made c.args.shared.now.budget.passes c.args.shared.now.budget.slice (omega arith)) c.requires.may c.passes.invariant.driven;
    }

pub returns-in-Waits-2 : goal.returns-in-Waits-2
returns-in-Waits-2 g c =
    let test = c.passes-test.true in
    record {
      driven = passed c.args.shared.now.boards.now c.passes.made c.args.shared.now.budget.passes c.args.shared.now.budget.slice c.args.driver.now c.passes.driver c.drive_slices.new.driver (omega arith)
          c.passes.invariant.driven c.in_ok-drive_slices.ensures.driven;
    }

pub returns-in-Waits-2-2 : goal.returns-in-Waits-2-2
returns-in-Waits-2-2 g c =
    let test = c.passes-test.true in
    record {
      driven = passed c.args.shared.now.boards.now c.passes.made c.args.shared.now.budget.passes c.args.shared.now.budget.slice c.args.driver.now c.passes.driver c.drive_slices.new.driver (omega arith)
          c.passes.invariant.driven c.in_ok-drive_slices.ensures.driven;
    }

pub returns-then-is_over : goal.returns-then-is_over
returns-then-is_over g c =
    let test = c.passes-test.true in
    record {
      driven = passed c.args.shared.now.boards.now c.passes.made c.args.shared.now.budget.passes c.args.shared.now.budget.slice c.args.driver.now c.passes.driver c.drive_slices.new.driver (omega arith)
          c.passes.invariant.driven c.in_ok-drive_slices.ensures.driven;
    }

pub passes-preserved : goal.passes-preserved
passes-preserved g c =
    let made = c.passes.made * c.args.shared.now.budget.slice in
    let next : made + c.args.shared.now.budget.slice ≡ (c.passes.made + 1) * c.args.shared.now.budget.slice = omega arith in
    record {
      driven = subst (λ turns. HasDrivenAll turns c.args.shared.now.boards.now c.args.driver.now c.drive_slices.new.driver) next
          (driven-then c.args.shared.now.boards.now made c.args.shared.now.budget.slice c.args.driver.now c.passes.driver c.drive_slices.new.driver
          c.passes.invariant.driven c.in_ok-drive_slices.ensures.driven);
    }
