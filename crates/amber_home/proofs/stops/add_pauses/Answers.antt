-- The pause of one operator more is there, if it stands.
use Rattle.std.proofs.Common.{◌≡◌, ◌∙◌, ◌++◌, ap, append-nil, length, map, suc, sym, arith}
use Rattle.std.specs.List.{flat_map}
use Rattle.amber_rows.specs.Lists.{numbers_below}
use Rattle.amber_dataflow.specs.Dataflow.{rows_emitted}
use Rattle.amber_home.specs.Leg.{pause_at, stop_of_pause}
use Rattle.amber_home.proofs.Places.{listed-after}
use Rattle.amber_home.proofs.stops.add_pauses.Goals as goal

pub loop-before-init : goal.loop-before-init
unfolding Rattle.amber_rows.specs.Lists.numbers_below
loop-before-init c = sym (append-nil c.args.stops.now.items)

pub loop-before-preserved : goal.loop-before-preserved
loop-before-preserved c =
    listed-after (λ op. stop_of_pause op (pause_at c.args.arms.now op) (rows_emitted c.args.dataflow.now op)) c.loop-before.before
    c.args.stops.now.items c.loop-before.stops.items c.add_pause.new.stops.items c.loop-before.invariant c.in_ok-add_pause.ensures

pub returns : goal.returns
returns c =
    let test = c.loop-before-test.false in
    let most = c.loop-before.auto.before-end in
    let long : length c.get.result.now ≡ length c.args.dataflow.now.flow = ap length (c.get.ensures.operators ∙ c.flow.ensures) in
    let count : c.loop-before.before ≡ length c.args.dataflow.now.flow = omega arith in
    c.loop-before.invariant
    ∙ ap (λ n. c.args.stops.now.items ++ flat_map (λ op. stop_of_pause op (pause_at c.args.arms.now op) (rows_emitted c.args.dataflow.now op)) (map suc (numbers_below n))) count
