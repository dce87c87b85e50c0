-- What was made for one worker more has come.
use Rattle.std.proofs.Common.{◌<◌, sym, subst, arith}
use Rattle.amber_dataflow.proofs.AllSettled.{settled-more}
use Rattle.amber_dataflow.proofs.Passed.{besides-same, besides-then, joined-put, put-same, put-then}
use Rattle.amber_dataflow.proofs.settling.settle_all.Goals as goal

pub workers-init : goal.workers-init
workers-init c = record { put = put-same c.args.crew.now; settled = λ to less. absurd (omega arith); aside = besides-same c.args.crew.now }

pub settle_inputs-requires-clause-crew : goal.settle_inputs-requires-clause-crew
settle_inputs-requires-clause-crew c = joined-put c.args.crew.now c.workers.crew c.requires c.workers.invariant.put

pub workers-preserved : goal.workers-preserved
workers-preserved c =
    let number = c.workers.number in
    let one = c.in_ok-settle_inputs.ensures in
    let before = c.workers.invariant in
    let long = c.workers.auto.crew in
    let inside = c.workers-test.true in
    record {
      put = put-then c.args.crew.now c.workers.crew c.settle_inputs.new.crew before.put one.put;
      settled = settled-more c.workers.crew c.settle_inputs.new.crew number (subst (λ n. number < n) (sym long) inside) (joined-put c.args.crew.now c.workers.crew c.requires before.put)
          before.settled one.put one.settled one.others;
      aside = besides-then c.args.crew.now c.workers.crew c.settle_inputs.new.crew before.aside one.aside;
    }
