-- The rows of one worker more are counted.
use Rattle.std.proofs.Common.{refl, ◌+◌, ◌<◌, length, arith}
use Rattle.amber_dataflow.proofs.Emitted.{all-emitted, crew-few, next-emitted, place-inside}
use Rattle.amber_dataflow.proofs.counts.emitted_by.Goals as goal

pub loop-place-init : goal.loop-place-init
unfolding Rattle.amber_rows.specs.Lists.numbers_below
loop-place-init c = record { rows = refl; few = omega arith }

pub bounds-crew-first : goal.bounds-crew-first
bounds-crew-first c =
    place-inside c.args.flow.now c.get.result.now c.args.crew.now c.args.op c.loop-place.place c.first_worker-first.result c.index-get-op.result
    c.get.ensures.operators c.requires.some c.requires.within c.requires.all c.index-get-op.is c.first_worker-first.ensures.first c.loop-place-test.true

pub overflow_add-rows : goal.overflow_add-rows
overflow_add-rows c =
    let inside : c.first_worker-first.result + c.loop-place.place < length c.args.crew.now =
    place-inside c.args.flow.now c.get.result.now c.args.crew.now c.args.op c.loop-place.place c.first_worker-first.result c.index-get-op.result
    c.get.ensures.operators c.requires.some c.requires.within c.requires.all c.index-get-op.is c.first_worker-first.ensures.first c.loop-place-test.true in
    let few = (next-emitted c.args.crew.now c.first_worker-first.result c.loop-place.place c.loop-place.rows c.emitted-rows.result c.index-crew-first.result inside
    c.index-crew-first.is c.emitted-rows.ensures c.requires.few c.loop-place.invariant.rows c.loop-place.invariant.few).1 in
    let all = c.requires.all in
    let most = crew-few c.args.flow.now c.requires.flow in
    omega arith

pub loop-place-preserved : goal.loop-place-preserved
loop-place-preserved c =
    let inside : c.first_worker-first.result + c.loop-place.place < length c.args.crew.now =
    place-inside c.args.flow.now c.get.result.now c.args.crew.now c.args.op c.loop-place.place c.first_worker-first.result c.index-get-op.result
    c.get.ensures.operators c.requires.some c.requires.within c.requires.all c.index-get-op.is c.first_worker-first.ensures.first c.loop-place-test.true in
    let next = (next-emitted c.args.crew.now c.first_worker-first.result c.loop-place.place c.loop-place.rows c.emitted-rows.result c.index-crew-first.result inside
    c.index-crew-first.is c.emitted-rows.ensures c.requires.few c.loop-place.invariant.rows c.loop-place.invariant.few) in
    record { rows = next.0; few = next.1 }

pub returns : goal.returns
returns c =
    all-emitted c.args.flow.now c.get.result.now c.args.crew.now c.args.op c.loop-place.place c.first_worker-first.result c.index-get-op.result c.get.ensures.operators
    c.requires.some c.requires.within c.loop-place.rows c.index-get-op.is c.first_worker-first.ensures.first c.loop-place-test.false c.loop-place.auto.place-end
    c.loop-place.invariant.rows
