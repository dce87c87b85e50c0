-- One operator after the other has its turn.
use Rattle.std.proofs.Common.{◌≡◌, ◌<◌, refl, sym, ap, subst, ◌∙◌, List, length, arith}
use Rattle.amber_rows.specs.Topology.{crew_of}
use Rattle.amber_rows.specs.declared.flow.Operator.{Operator}
use Rattle.amber_home.proofs.AsFar.{far-fed, far-same, far-then}
use Rattle.amber_home.proofs.Fed.{fed-on}
use Rattle.amber_home.proofs.Going.{on-refl, on-then, stand-on}
use Rattle.amber_home.proofs.feeding.feed_each.Goals as goal

pub operators-init : goal.operators-init
operators-init c = record {
  on = on-refl c.args.arms.now c.args.dataflow.now;
  far = far-same c.args.arms.now c.args.dataflow.now c.args.dataflow.now refl;
  counted = c.requires.counted;
}

pub worker_in_turn-worker-requires-clause-within : goal.worker_in_turn-worker-requires-clause-within
worker_in_turn-worker-requires-clause-within c =
    let test = c.operators-test.true in
    let long : length c.get.result.now ≡ length c.flow-in-operators.result.now =
    ap length (c.get.ensures.operators ∙ c.flow.ensures ∙ sym c.operators.invariant.on.flow ∙ sym c.flow-in-operators.ensures) in
    omega arith

pub feed_in_turn-requires-clause-there : goal.feed_in_turn-requires-clause-there
feed_in_turn-requires-clause-there c =
    subst (λ (f : List Operator). c.worker_in_turn-worker.result < crew_of f) c.flow-in-operators.ensures c.worker_in_turn-worker.ensures.there

pub feed_in_turn-requires-clause-stand : goal.feed_in_turn-requires-clause-stand
feed_in_turn-requires-clause-stand c = stand-on c.args.arms.now c.args.dataflow.now c.operators.dataflow c.operators.invariant.on c.requires.stand

pub operators-preserved : goal.operators-preserved
operators-preserved c =
    let before = c.operators.invariant in
    let arms = c.args.arms.now in
    let old = c.operators.dataflow in
    let new = c.feed_in_turn.new.dataflow in
    let fed = c.in_ok-feed_in_turn.ensures.fed in
    record {
      on = on-then arms c.args.dataflow.now old new before.on
          (fed-on arms c.operators.boards old new c.worker_in_turn-worker.result fed before.counted.targets);
      far = far-then arms c.args.dataflow.now old new before.far (far-fed arms c.operators.boards old new c.worker_in_turn-worker.result fed);
      counted = c.in_ok-feed_in_turn.ensures.counted;
    }
