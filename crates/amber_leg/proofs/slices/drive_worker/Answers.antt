-- Slice after slice, until the worker does not move.
use Rattle.std.proofs.Common.{◌-◌, arith}
use Rattle.amber_leg.proofs.Sliced.{counted-both, counted-more, counted-same}
use Rattle.amber_leg.proofs.slices.drive_worker.Goals as goal

pub slices-init : goal.slices-init
slices-init g c = record {
  within = omega arith;
  made = counted-more 0 (c.args.budget.slice - c.args.budget.slice) c.args.worker.now c.args.worker.now (omega arith) (λ one. absurd (omega (arith, one))) (counted-same c.args.worker.now);
  own = c.requires.own;
}

-- it waits, or stands
pub returns-in-Waits-clause-made : goal.returns-in-Waits-clause-made
returns-in-Waits-clause-made g c =
    let slice = c.min-turns.ensures in
    let test = c.slices-test.true in
    let within = c.slices.invariant.within in
    counted-both (c.args.budget.slice - c.slices.left) c.min-turns.result c.args.budget.slice c.args.worker.now c.slices.worker c.drive_turns.new.worker (omega arith) (λ one. omega arith) c.slices.invariant.made
    c.in_ok-drive_turns.ensures.made

pub returns-in-Stands-clause-made : goal.returns-in-Stands-clause-made
returns-in-Stands-clause-made g c =
    let slice = c.min-turns.ensures in
    let test = c.slices-test.true in
    let within = c.slices.invariant.within in
    counted-both (c.args.budget.slice - c.slices.left) c.min-turns.result c.args.budget.slice c.args.worker.now c.slices.worker c.drive_turns.new.worker (omega arith) (λ one. omega arith) c.slices.invariant.made
    c.in_ok-drive_turns.ensures.made

-- it moved
pub slices-preserved : goal.slices-preserved
slices-preserved g c =
    let slice = c.min-turns.ensures in
    let test = c.slices-test.true in
    let within = c.slices.invariant.within in
    record {
      within = omega arith;
      made = counted-both (c.args.budget.slice - c.slices.left) c.min-turns.result (c.args.budget.slice - (c.slices.left - c.min-turns.result)) c.args.worker.now c.slices.worker c.drive_turns.new.worker (omega arith) (λ one. omega arith) c.slices.invariant.made
          c.in_ok-drive_turns.ensures.made;
      own = c.in_ok-drive_turns.ensures.own;
    }
