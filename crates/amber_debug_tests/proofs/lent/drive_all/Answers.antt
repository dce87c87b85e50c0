-- One worker more.
use Rattle.std.proofs.Common.{◌≡◌, ◌+◌, ◌*◌, ◌<◌, ◌≤◌, refl, ◌∙◌, arith}
use Rattle.amber_debug_tests.proofs.lent.drive_all.Goals as goal

pub workers-init : goal.workers-init
workers-init c = record { lent = c.requires.lent; all = refl; few = omega arith }

pub drive_at-requires-clause-lent : goal.drive_at-requires-clause-lent
drive_at-requires-clause-lent c = c.workers.invariant.lent

pub drive_at-requires-clause-there : goal.drive_at-requires-clause-there
drive_at-requires-clause-there c =
    let test = c.workers-test.true in
    let there = c.requires.there in
    let all = c.workers.invariant.all in
    omega arith

pub drive_at-requires-clause-few : goal.drive_at-requires-clause-few
drive_at-requires-clause-few c =
    let test = c.workers-test.true in
    let few = c.requires.few in
    let made = c.workers.invariant.few in
    omega arith

pub workers-preserved : goal.workers-preserved
workers-preserved c =
    let drove = c.in_ok-drive_at.ensures in
    record {
      lent = drove.lent;
      all = drove.all ∙ c.workers.invariant.all;
      few = let few = drove.few in let made = c.workers.invariant.few in omega arith;
    }

pub returns : goal.returns
returns c = c.workers.invariant.lent
