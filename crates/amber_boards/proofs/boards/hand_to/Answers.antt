-- The operator's workers are disarmed, and armed again on a board whose units are all in one hand.
use Rattle.std.proofs.Common.{◌∙◌, refl, sym, ap, subst, ◌+◌, ◌-◌, ◌++◌, ◌∷◌, [], length, arith}
use Rattle.amber_board.specs.Opening.{all_with}
use Rattle.amber_log.specs.declared.entry.Entry.TheVariants as entry
use Rattle.amber_rows.specs.Topology.{op_of, worker_count}
use Rattle.amber_meaning.proofs.Crews.{op-within}
use Rattle.amber_dataflow.specs.Dataflow.{journal_of, rows_emitted}
use Rattle.amber_boards.specs.declared.target.Target.{Target}
use Rattle.amber_boards.specs.Boards.{ArmsOperator, ChangesAt, DisarmsOperator, IsCountedOn, IsSince, StandsCounted}
use Rattle.amber_boards.proofs.OthersKept.{changes-twice, counted-then}
use Rattle.amber_boards.proofs.Refilled.{counted-now, disarmed-unarmed, for-worker, given_at, hand-empty, own-place, refilled-fed, refilled-grant, refilled-others, rows-within, some-left, unfinished-there}
use Rattle.amber_boards.proofs.boards.hand_to.Goals as goal

pub overflow_sub-place : goal.overflow_sub-place
overflow_sub-place c =
    (own-place c.args.dataflow.now.flow c.flow.result.now c.flow-2.result.now c.args.worker c.op_of-op.result c.first_worker.result c.requires.there c.flow.ensures c.flow-2.ensures c.op_of-op.ensures
    c.first_worker.ensures.first).2

pub worker_count-workers-requires-clause-there : goal.worker_count-workers-requires-clause-there
worker_count-workers-requires-clause-there c =
    let op = c.op_of-op.ensures ∙ ap (λ f. op_of f c.args.worker) c.flow.ensures in
    let last = (op-within c.args.dataflow.now.flow c.args.worker c.requires.there).1 in
    let same = ap length c.flow-3.ensures in
    omega arith

pub disarm_operator-requires-clause-there : goal.disarm_operator-requires-clause-there
disarm_operator-requires-clause-there c =
    let op = c.op_of-op.ensures ∙ ap (λ f. op_of f c.args.worker) c.flow.ensures in
    let last = (op-within c.args.dataflow.now.flow c.args.worker c.requires.there).1 in
    omega arith

pub rows_emitted-requires-clause-within : goal.rows_emitted-requires-clause-within
rows_emitted-requires-clause-within c =
    let op = c.op_of-op.ensures ∙ ap (λ f. op_of f c.args.worker) c.flow.ensures in
    let last = (op-within c.args.dataflow.now.flow c.args.worker c.requires.there).1 in
    let same = ap length c.disarm_operator.ensures.disarms.change.flow in
    omega arith

pub left-rest-requires-clause-since : goal.left-rest-requires-clause-since
left-rest-requires-clause-since c =
    let old = c.args.dataflow.now in
    let op = c.op_of-op.ensures ∙ ap (λ f. op_of f c.args.worker) c.flow.ensures in
    let on = subst (λ n. IsCountedOn c.args.counter n old) (sym op) c.requires.counted in
    let both = rows-within c.args.counter c.op_of-op.result old c.disarm_operator.new.dataflow on c.disarm_operator.ensures.disarms c.disarm_operator.ensures.within in
    let since = both.0.since in
    let own = ap (λ (t : Target). t.since) c.requires.target in
    let rows = c.rows_emitted.ensures in
    omega arith

pub left-rest-requires-clause-within : goal.left-rest-requires-clause-within
left-rest-requires-clause-within c =
    let old = c.args.dataflow.now in
    let op = c.op_of-op.ensures ∙ ap (λ f. op_of f c.args.worker) c.flow.ensures in
    let on = subst (λ n. IsCountedOn c.args.counter n old) (sym op) c.requires.counted in
    let both = rows-within c.args.counter c.op_of-op.result old c.disarm_operator.new.dataflow on c.disarm_operator.ensures.disarms c.disarm_operator.ensures.within in
    let most = both.1 in
    let own = ap (λ (t : Target). t.target + t.since) c.requires.target in
    let rows = c.rows_emitted.ensures in
    omega arith

pub for_one-requires-clause-units : goal.for_one-requires-clause-units
for_one-requires-clause-units c =
    let old = c.args.dataflow.now in
    let op = c.op_of-op.ensures ∙ ap (λ f. op_of f c.args.worker) c.flow.ensures in
    let on = subst (λ n. IsCountedOn c.args.counter n old) (sym op) c.requires.counted in
    let got = some-left c.args.counter c.args.target c.op_of-op.result old c.disarm_operator.new.dataflow c.rows_emitted.result c.left-rest.result c.requires.target on
    c.disarm_operator.ensures.disarms c.disarm_operator.ensures.within (λ e. c.requires.left (ap (rows_emitted old) (sym op) ∙ e)) c.rows_emitted.ensures c.left-rest.ensures in
    (got.0, got.1)

pub for_one-requires-clause-worker : goal.for_one-requires-clause-worker
for_one-requires-clause-worker c =
    let flow = c.args.dataflow.now.flow in
    let own = own-place flow c.flow.result.now c.flow-2.result.now c.args.worker c.op_of-op.result c.first_worker.result c.requires.there c.flow.ensures c.flow-2.ensures c.op_of-op.ensures
    c.first_worker.ensures.first in
    let count = c.worker_count-workers.ensures.count ∙ ap (λ f. worker_count f c.op_of-op.result) c.flow-3.ensures ∙ ap (worker_count flow) own.0 in
    let low = own.2 in
    let high = own.3 in
    omega arith

pub arm_operator-requires-clause-there : goal.arm_operator-requires-clause-there
arm_operator-requires-clause-there c =
    let op = c.op_of-op.ensures ∙ ap (λ f. op_of f c.args.worker) c.flow.ensures in
    let last = (op-within c.args.dataflow.now.flow c.args.worker c.requires.there).1 in
    let same = ap length c.disarm_operator.ensures.disarms.change.flow in
    omega arith

pub arm_operator-requires-clause-unarmed : goal.arm_operator-requires-clause-unarmed
arm_operator-requires-clause-unarmed c = disarmed-unarmed c.op_of-op.result c.args.dataflow.now c.disarm_operator.new.dataflow c.disarm_operator.ensures.disarms

pub arm_operator-requires-clause-hands : goal.arm_operator-requires-clause-hands
arm_operator-requires-clause-hands c =
    let old = c.args.dataflow.now in
    let mid = c.disarm_operator.new.dataflow in
    let own = own-place old.flow c.flow.result.now c.flow-2.result.now c.args.worker c.op_of-op.result c.first_worker.result c.requires.there c.flow.ensures c.flow-2.ensures c.op_of-op.ensures
    c.first_worker.ensures.first in
    let change = c.disarm_operator.ensures.disarms.change in
    for-worker c.in_ok-counter.counter.board mid c.op_of-op.result (c.args.worker - c.first_worker.result) c.left-rest.result c.in_ok-counter.dealt.items c.in_ok-counter.ensures.made.made.seats
    (unfinished-there old mid c.op_of-op.result c.args.worker c.first_worker.result change.flow change.same own.0 own.1 own.2 c.requires.unfinished)

pub arm_operator-requires-clause-stand : goal.arm_operator-requires-clause-stand
arm_operator-requires-clause-stand c =
    let old = c.args.dataflow.now in
    let op = c.op_of-op.ensures ∙ ap (λ f. op_of f c.args.worker) c.flow.ensures in
    counted-then c.op_of-op.result old c.disarm_operator.new.dataflow c.disarm_operator.ensures.disarms.change (subst (λ n. StandsCounted n old) (sym op) c.requires.stand)

pub returns-clause-change : goal.returns-clause-change
returns-clause-change c =
    let old = c.args.dataflow.now in
    let new = c.arm_operator.new.dataflow in
    let op = c.op_of-op.ensures ∙ ap (λ f. op_of f c.args.worker) c.flow.ensures in
    let place = c.args.worker - c.first_worker.result in
    let arms = c.in_ok-arm_operator.ensures.arms (record { board = c.in_ok-counter.counter.board; op = c.op_of-op.result; given = given_at place c.left-rest.result }) refl
    c.in_ok-counter.ensures.made.made.seats in
    subst (λ n. ChangesAt n old new) op (changes-twice c.op_of-op.result old c.disarm_operator.new.dataflow new c.disarm_operator.ensures.disarms.change arms.change)

pub returns-clause-counted : goal.returns-clause-counted
returns-clause-counted c =
    let old = c.args.dataflow.now in
    let mid = c.disarm_operator.new.dataflow in
    let new = c.arm_operator.new.dataflow in
    let op = c.op_of-op.ensures ∙ ap (λ f. op_of f c.args.worker) c.flow.ensures in
    let place = c.args.worker - c.first_worker.result in
    let units = c.left-rest.result in
    let disarms = c.disarm_operator.ensures.disarms in
    let arms = c.in_ok-arm_operator.ensures.arms (record { board = c.in_ok-counter.counter.board; op = c.op_of-op.result; given = given_at place units }) refl c.in_ok-counter.ensures.made.made.seats in
    let on = subst (λ n. IsCountedOn c.args.counter n old) (sym op) c.requires.counted in
    let both = rows-within c.args.counter c.op_of-op.result old mid on disarms c.disarm_operator.ensures.within in
    let got = some-left c.args.counter c.args.target c.op_of-op.result old mid c.rows_emitted.result units c.requires.target on
    disarms c.disarm_operator.ensures.within (λ e. c.requires.left (ap (rows_emitted old) (sym op) ∙ e)) c.rows_emitted.ensures c.left-rest.ensures in
    let target = c.in_ok-counter.ensures.target in
    let count = c.worker_count-workers.ensures.count ∙ ap (λ f. worker_count f c.op_of-op.result) (c.flow-3.ensures ∙ sym disarms.change.flow) in
    subst (λ n. IsCountedOn c.in_ok-counter.counter n new) op
    (counted-now c.in_ok-counter.counter c.in_ok-counter.chief c.in_ok-counter.dealt.items (all_with place units c.worker_count-workers.result) c.op_of-op.result mid new c.in_ok-counter.ensures.made count arms
    (subst (λ t. IsSince t (rows_emitted mid c.op_of-op.result)) (c.requires.target ∙ sym target) both.0)
    (got.2 ∙ sym (ap (λ (t : Target). t.target + t.since) target)))

pub returns-clause-led : goal.returns-clause-led
returns-clause-led c = (c.in_ok-counter.ensures.made.made.chief, c.in_ok-counter.ensures.made.made.empty)

pub returns-clause-fed : goal.returns-clause-fed
returns-clause-fed c =
    let old = c.args.dataflow.now in
    let mid = c.disarm_operator.new.dataflow in
    let new = c.arm_operator.new.dataflow in
    let own = own-place old.flow c.flow.result.now c.flow-2.result.now c.args.worker c.op_of-op.result c.first_worker.result c.requires.there c.flow.ensures c.flow-2.ensures c.op_of-op.ensures
    c.first_worker.ensures.first in
    let op = own.0 in
    let place = c.args.worker - c.first_worker.result in
    let units = c.left-rest.result in
    let board = c.in_ok-counter.counter.board in
    let disarms = c.disarm_operator.ensures.disarms in
    let arms = c.in_ok-arm_operator.ensures.arms (record { board = board; op = c.op_of-op.result; given = given_at place units }) refl c.in_ok-counter.ensures.made.made.seats in
    let on = subst (λ n. IsCountedOn c.args.counter n old) (sym op) c.requires.counted in
    let got = some-left c.args.counter c.args.target c.op_of-op.result old mid c.rows_emitted.result units c.requires.target on
    disarms c.disarm_operator.ensures.within (λ e. c.requires.left (ap (rows_emitted old) (sym op) ∙ e)) c.rows_emitted.ensures c.left-rest.ensures in
    refilled-fed board c.args.worker place units old mid new c.requires.there (ap (λ n. c.args.worker - n) own.1) (subst (λ n. DisarmsOperator n old mid) op disarms)
    (subst (λ n. ArmsOperator (record { board = board; op = n; given = given_at place units }) mid new) op arms) got.0

pub returns-clause-grant : goal.returns-clause-grant
returns-clause-grant c =
    let old = c.args.dataflow.now in
    let mid = c.disarm_operator.new.dataflow in
    let new = c.arm_operator.new.dataflow in
    let own = own-place old.flow c.flow.result.now c.flow-2.result.now c.args.worker c.op_of-op.result c.first_worker.result c.requires.there c.flow.ensures c.flow-2.ensures c.op_of-op.ensures
    c.first_worker.ensures.first in
    let op = own.0 in
    let place = c.args.worker - c.first_worker.result in
    let units = c.left-rest.result in
    let board = c.in_ok-counter.counter.board in
    let disarms = c.disarm_operator.ensures.disarms in
    let arms = c.in_ok-arm_operator.ensures.arms (record { board = board; op = c.op_of-op.result; given = given_at place units }) refl c.in_ok-counter.ensures.made.made.seats in
    let on = subst (λ n. IsCountedOn c.args.counter n old) (sym op) c.requires.counted in
    let got = some-left c.args.counter c.args.target c.op_of-op.result old mid c.rows_emitted.result units c.requires.target on
    disarms c.disarm_operator.ensures.within (λ e. c.requires.left (ap (rows_emitted old) (sym op) ∙ e)) c.rows_emitted.ensures c.left-rest.ensures in
    refilled-grant board c.args.worker place units old mid new c.requires.there (ap (λ n. c.args.worker - n) own.1) (subst (λ n. DisarmsOperator n old mid) op disarms)
    (subst (λ n. ArmsOperator (record { board = board; op = n; given = given_at place units }) mid new) op arms) got.0 (hand-empty old c.args.worker c.requires.short)
    ∙ ap (λ n. journal_of old c.args.worker ++ entry.Grant n ∷ []) (got.3 ∙ ap (λ n. c.args.target.target + c.args.target.since - rows_emitted old n) op)

pub returns-clause-own : goal.returns-clause-own
returns-clause-own c =
    let old = c.args.dataflow.now in
    let mid = c.disarm_operator.new.dataflow in
    let new = c.arm_operator.new.dataflow in
    let own = own-place old.flow c.flow.result.now c.flow-2.result.now c.args.worker c.op_of-op.result c.first_worker.result c.requires.there c.flow.ensures c.flow-2.ensures c.op_of-op.ensures
    c.first_worker.ensures.first in
    let op = own.0 in
    let place = c.args.worker - c.first_worker.result in
    let units = c.left-rest.result in
    let board = c.in_ok-counter.counter.board in
    let arms = c.in_ok-arm_operator.ensures.arms (record { board = board; op = c.op_of-op.result; given = given_at place units }) refl c.in_ok-counter.ensures.made.made.seats in
    refilled-others board c.args.worker place units old mid new c.requires.there (ap (λ n. c.args.worker - n) own.1) (subst (λ n. DisarmsOperator n old mid) op c.disarm_operator.ensures.disarms)
    (subst (λ n. ArmsOperator (record { board = board; op = n; given = given_at place units }) mid new) op arms)
