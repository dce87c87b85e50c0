-- One worker more shows its view.
use Rattle.std.proofs.Common.{◌+◌, ◌<◌, length}
use Rattle.amber_dataflow.proofs.Emitted.{place-inside}
use Rattle.amber_dataflow.proofs.Viewed.{shown-all, shown-more, shown-none}
use Rattle.amber_dataflow.proofs.views.views_of.Goals as goal

pub loop-place-init : goal.loop-place-init
unfolding Rattle.amber_rows.specs.Lists.numbers_below
loop-place-init c = shown-none c.args.crew.now c.new-views.result.items c.new-views.ensures.items

pub bounds-crew-first : goal.bounds-crew-first
bounds-crew-first c =
    place-inside c.args.flow.now c.get.result.now c.args.crew.now c.args.op c.loop-place.place c.first_worker-first.result c.index-get-op.result
    c.get.ensures.operators c.requires.some c.requires.within c.requires.all c.index-get-op.is c.first_worker-first.ensures.first c.loop-place-test.true

pub loop-place-preserved : goal.loop-place-preserved
loop-place-preserved c =
    let inside : c.first_worker-first.result + c.loop-place.place < length c.args.crew.now =
    place-inside c.args.flow.now c.get.result.now c.args.crew.now c.args.op c.loop-place.place c.first_worker-first.result c.index-get-op.result
    c.get.ensures.operators c.requires.some c.requires.within c.requires.all c.index-get-op.is c.first_worker-first.ensures.first c.loop-place-test.true in
    shown-more c.args.crew.now c.first_worker-first.result c.loop-place.place c.index-crew-first.result c.in_ok-view.field-0 c.loop-place.views.items c.push.new.self.items inside
    c.index-crew-first.is c.loop-place.invariant c.in_ok-view.ensures c.in_ok-push.ensures.items

pub returns : goal.returns
returns c =
    shown-all c.args.flow.now c.get.result.now c.args.crew.now c.args.op c.loop-place.place c.first_worker-first.result c.index-get-op.result c.loop-place.views.items c.new.result
    c.get.ensures.operators c.requires.some c.requires.within c.index-get-op.is c.first_worker-first.ensures.first c.loop-place-test.false c.loop-place.auto.place-end
    c.loop-place.invariant c.new.ensures
