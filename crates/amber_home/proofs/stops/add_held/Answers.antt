-- The stop of one worker more is there, if it is held.
use Rattle.std.proofs.Common.{◌≡◌, ◌∙◌, ◌++◌, ap, append-nil, sym, arith}
use Rattle.std.specs.List.{flat_map}
use Rattle.amber_rows.specs.Lists.{numbers_below}
use Rattle.amber_rows.specs.Topology.{crew_of}
use Rattle.amber_home.specs.Leg.{held_of, stop_of_worker}
use Rattle.amber_home.proofs.Places.{below-after}
use Rattle.amber_home.proofs.stops.add_held.Goals as goal

pub workers-init : goal.workers-init
unfolding Rattle.amber_rows.specs.Lists.numbers_below
workers-init c = sym (append-nil c.args.stops.now.items)

pub workers-preserved : goal.workers-preserved
workers-preserved c =
    below-after (stop_of_worker c.args.dataflow.now) c.workers.worker c.args.stops.now.items c.workers.stops.items c.add_worker.new.stops.items
    c.workers.invariant c.in_ok-add_worker.ensures

pub returns : goal.returns
unfolding held_of
returns c =
    let test = c.workers-test.false in
    let most = c.workers.auto.worker-end in
    let end = c.workers-worker-end.ensures ∙ ap crew_of c.flow.ensures in
    let count : c.workers.worker ≡ crew_of c.args.dataflow.now.flow = omega arith in
    c.workers.invariant ∙ ap (λ n. c.args.stops.now.items ++ flat_map (stop_of_worker c.args.dataflow.now) (numbers_below n)) count
