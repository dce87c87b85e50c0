-- The first that has not finished is fed, and makes a step.
use Rattle.std.proofs.Common.{◌≡◌, ◌<◌, sym, ap, subst, ◌∙◌, List, option_map, arith}
use Rattle.std.proofs.lemmas.Result.{on_ok_weaker}
use Rattle.amber_rows.specs.Topology.{crew_of, op_of}
use Rattle.amber_rows.specs.declared.flow.Operator.{Operator}
use Rattle.amber_worker.specs.Counting.{IsBoardOf}
use Rattle.amber_dataflow.specs.Dataflow.{IsFirst, is_armed_at, seat_of}
use Rattle.amber_boards.specs.Boards.{CounterState, board_at, has_board}
use Rattle.amber_home.proofs.Fed.{fed-first, fed-free, fed-on, fed-steps, ok-and}
use Rattle.amber_home.proofs.Going.{on-then, one-on, stand-on}
use Rattle.amber_home.proofs.Ready.{armed-counted, boards-counted, own-board, ready-turned, stands-under}
use Rattle.amber_home.proofs.stepping.step_next.Goals as goal

pub feed-requires-clause-there : goal.feed-requires-clause-there
feed-requires-clause-there c = c.first_unfinished-worker.ensures.there

pub feed-requires-clause-unfinished : goal.feed-requires-clause-unfinished
feed-requires-clause-unfinished c = c.first_unfinished-worker.ensures.unfinished

pub feed-requires-clause-none : goal.feed-requires-clause-none
feed-requires-clause-none c = c.requires.none (op_of c.args.dataflow.now.flow c.first_unfinished-worker.result)

pub step-requires-clause-workers : goal.step-requires-clause-workers
step-requires-clause-workers c =
    let worker = c.first_unfinished-worker.result in
    (fed-on c.args.arms.now c.args.boards.now c.args.dataflow.now c.feed.new.dataflow worker c.in_ok-feed.ensures.fed c.requires.counted.targets).there c.requires.workers

pub step-requires-clause-first : goal.step-requires-clause-first
step-requires-clause-first c =
    fed-first c.args.arms.now c.args.boards.now c.args.dataflow.now c.feed.new.dataflow c.first_unfinished-worker.result c.in_ok-feed.ensures.fed c.first_unfinished-worker.ensures

pub step-requires-clause-free : goal.step-requires-clause-free
step-requires-clause-free c =
    fed-free c.args.arms.now c.args.boards.now c.args.dataflow.now c.feed.new.dataflow c.first_unfinished-worker.result c.in_ok-feed.ensures.fed c.requires.free

pub step-requires-clause-own : goal.step-requires-clause-own
step-requires-clause-own c =
    let worker = c.first_unfinished-worker.result in
    let fed = c.feed.new.dataflow in
    let first : IsFirst fed worker = fed-first c.args.arms.now c.args.boards.now c.args.dataflow.now fed worker c.in_ok-feed.ensures.fed c.first_unfinished-worker.ensures in
    let op : c.op_of-op.result ≡ op_of fed.flow worker = c.op_of-op.ensures ∙ ap (λ (f : List Operator). op_of f worker) c.flow.ensures in
    subst (λ board. IsBoardOf board (seat_of fed worker))
    (ap (λ k. option_map (λ (counter : CounterState). counter.board) (board_at c.feed.new.boards k)) (sym op) ∙ sym c.board_at.ensures)
    (own-board c.args.arms.now c.feed.new.boards fed c.in_ok-feed.ensures.counted worker first.there)

pub step-requires-clause-under : goal.step-requires-clause-under
step-requires-clause-under c =
    let worker = c.first_unfinished-worker.result in
    let fed = c.feed.new.dataflow in
    let first : IsFirst fed worker = fed-first c.args.arms.now c.args.boards.now c.args.dataflow.now fed worker c.in_ok-feed.ensures.fed c.first_unfinished-worker.ensures in
    stands-under c.args.arms.now c.feed.new.boards fed c.in_ok-feed.ensures.counted worker first.there
    (stand-on c.args.arms.now c.args.dataflow.now fed
    (fed-on c.args.arms.now c.args.boards.now c.args.dataflow.now fed worker c.in_ok-feed.ensures.fed c.requires.counted.targets) c.requires.stand)

pub step-requires-clause-few : goal.step-requires-clause-few
step-requires-clause-few c =
    let same = fed-steps c.args.arms.now c.args.boards.now c.args.dataflow.now c.feed.new.dataflow c.first_unfinished-worker.result c.in_ok-feed.ensures.fed in
    let few = c.requires.few in
    omega arith

pub op_of-op-requires : goal.op_of-op-requires
op_of-op-requires c =
    let worker = c.first_unfinished-worker.result in
    let first = fed-first c.args.arms.now c.args.boards.now c.args.dataflow.now c.feed.new.dataflow worker c.in_ok-feed.ensures.fed c.first_unfinished-worker.ensures in
    subst (λ (f : List Operator). worker < crew_of f) (sym c.flow.ensures) first.there

pub returns-clause-on : goal.returns-clause-on
returns-clause-on c =
    let arms = c.args.arms.now in
    let worker = c.first_unfinished-worker.result in
    let old = c.args.dataflow.now in
    let fed = c.feed.new.dataflow in
    let first : IsFirst fed worker = fed-first arms c.args.boards.now old fed worker c.in_ok-feed.ensures.fed c.first_unfinished-worker.ensures in
    on_ok_weaker c.step.result
    (λ steps. on-then arms old fed c.step.new.self (fed-on arms c.args.boards.now old fed worker c.in_ok-feed.ensures.fed c.requires.counted.targets)
    (one-on arms c.feed.new.boards fed c.step.new.self worker 1 c.in_ok-feed.ensures.counted first.there steps.turns))
    c.step.ensures.steps

pub returns-clause-steps : goal.returns-clause-steps
returns-clause-steps c =
    let arms = c.args.arms.now in
    let worker = c.first_unfinished-worker.result in
    let old = c.args.dataflow.now in
    let fed = c.feed.new.dataflow in
    let first : IsFirst fed worker = fed-first arms c.args.boards.now old fed worker c.in_ok-feed.ensures.fed c.first_unfinished-worker.ensures in
    let armed : is_armed_at fed worker ≡ has_board c.args.boards.now (op_of old.flow worker) =
    sym (armed-counted arms c.feed.new.boards fed c.in_ok-feed.ensures.counted worker first.there)
    ∙ sym (boards-counted arms c.args.boards.now c.requires.counted.targets (op_of fed.flow worker))
    ∙ ap (λ (f : List Operator). has_board c.args.boards.now (op_of f worker)) c.in_ok-feed.ensures.flow in
    on_ok_weaker c.step.result
    (λ steps. record { fed = fed; steps = record { worker = worker; is = first; steps = steps }; feeds = c.in_ok-feed.ensures.fed; armed = armed })
    c.step.ensures.steps

pub returns-clause-counted : goal.returns-clause-counted
returns-clause-counted c =
    let arms = c.args.arms.now in
    let worker = c.first_unfinished-worker.result in
    let fed = c.feed.new.dataflow in
    let first : IsFirst fed worker = fed-first arms c.args.boards.now c.args.dataflow.now fed worker c.in_ok-feed.ensures.fed c.first_unfinished-worker.ensures in
    let op : c.op_of-op.result ≡ op_of fed.flow worker = c.op_of-op.ensures ∙ ap (λ (f : List Operator). op_of f worker) c.flow.ensures in
    ok-and c.step.result
    (λ steps own. ready-turned c.feed.new.boards fed c.step.new.self worker 1 steps.turns
    (subst (λ board. IsBoardOf board (seat_of c.step.new.self worker))
    (c.board_at.ensures ∙ ap (λ k. option_map (λ (counter : CounterState). counter.board) (board_at c.feed.new.boards k)) op) own)
    arms first.there c.in_ok-feed.ensures.counted)
    c.step.ensures.steps c.step.ensures.own
