-- The operator's workers are armed on a board with what is left to its target.
use Rattle.std.proofs.Common.{◌∙◌, refl, sym, ap, subst, ◌+◌, ◌-◌}
use Rattle.amber_board.specs.Opening.{all_unassigned}
use Rattle.amber_rows.specs.Topology.{worker_count}
use Rattle.amber_dataflow.specs.Dataflow.{rows_emitted}
use Rattle.amber_boards.specs.Boards.{IsBelow, IsSince}
use Rattle.amber_boards.proofs.Refilled.{counted-now, silent, units-left}
use Rattle.amber_boards.proofs.boards.arm_one.Goals as goal

pub returns-clause-change : goal.returns-clause-change
returns-clause-change c =
    (c.in_ok-arm_operator.ensures.arms (record { board = c.in_ok-counter.counter.board; op = c.args.op; given = λ place. 0 }) refl c.in_ok-counter.ensures.made.made.seats).change

pub returns-clause-counted : goal.returns-clause-counted
returns-clause-counted c =
    let old = c.args.dataflow.now in
    let target = c.in-Some.target in
    let rows = rows_emitted old c.args.op in
    let below = subst (λ t. IsBelow t rows) c.in-Some.is c.requires.below in
    counted-now c.in_ok-counter.counter c.in_ok-counter.chief c.in_ok-counter.dealt.items (all_unassigned c.left-units.result c.worker_count-workers.result) c.args.op old c.arm_operator.new.dataflow
    c.in_ok-counter.ensures.made
    (c.worker_count-workers.ensures.count ∙ ap (λ f. worker_count f c.args.op) c.flow.ensures)
    (c.in_ok-arm_operator.ensures.arms (record { board = c.in_ok-counter.counter.board; op = c.args.op; given = λ place. 0 }) refl c.in_ok-counter.ensures.made.made.seats)
    (subst (λ t. IsSince t rows) (sym c.in_ok-counter.ensures.target) below.0)
    (units-left c.in_ok-counter.counter.target target rows c.left-units.result c.in_ok-counter.ensures.target
    (c.left-units.ensures ∙ ap (λ n. target.target + target.since - n) c.rows_emitted.ensures) below.1)

pub returns-clause-led : goal.returns-clause-led
returns-clause-led c = (c.in_ok-counter.ensures.made.made.chief, c.in_ok-counter.ensures.made.made.empty)

pub returns-clause-journals : goal.returns-clause-journals
returns-clause-journals c =
    silent c.in_ok-counter.counter.board c.args.op c.args.dataflow.now c.arm_operator.new.dataflow c.requires.workers
    (c.in_ok-arm_operator.ensures.arms (record { board = c.in_ok-counter.counter.board; op = c.args.op; given = λ place. 0 }) refl c.in_ok-counter.ensures.made.made.seats)
