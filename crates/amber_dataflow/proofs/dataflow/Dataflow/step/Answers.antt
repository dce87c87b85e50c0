-- The first that has not finished makes a step, or none is left.
use Rattle.std.proofs.Common.{◌<◌, ◌^◌, sym, ap, subst, ◌∙◌, length, take, drop, ◌++◌, arith}
use Rattle.std.specs.Option.{option_copied}
use Rattle.amber_worker.specs.Counting.{IsBoardOf}
use Rattle.amber_dataflow.specs.AtWork.{HaveFinished, worker_state_at}
use Rattle.amber_dataflow.specs.Dataflow.{AreAllThere, AreFree, DataflowState, IsFirst, StandsUnder, StepsAt, has_finished, is_armed_at, is_short, seat_of, step_count}
use Rattle.amber_dataflow.proofs.Kept.{crew-lent, does-back, fed-lent, few-lent, free-lent, kept-stepped, none-left, own-back, own-lent, turned-back}
use Rattle.amber_dataflow.proofs.dataflow.Dataflow.step.Goals as goal

pub step_worker-requires-clause-there : goal.step_worker-requires-clause-there
step_worker-requires-clause-there c =
    let i = c.self.inside in
    let d : DataflowState = record { flow = i.flow; workers = i.workers.items } in
    let there : AreAllThere d = subst AreAllThere (sym c.self.view_is) c.requires.workers in
    let first : IsFirst d c.args.worker = subst (λ e. IsFirst e c.args.worker) (sym c.self.view_is) c.requires.first in
    subst (λ crew. c.args.worker < length crew) (sym c.as_mut_slice.ensures.value) (rw there first.there)

pub step_worker-requires-clause-crew : goal.step_worker-requires-clause-crew
step_worker-requires-clause-crew c =
    crew-lent (record { flow = c.self.inside.flow; workers = c.self.inside.workers.items }) c.self.invariant c.as_mut_slice.result.now c.args.worker c.as_mut_slice.ensures.value
    (subst (λ d. StandsUnder (is_armed_at d c.args.worker) d c.args.worker) (sym c.self.view_is) c.requires.under)

pub step_worker-requires-clause-first : goal.step_worker-requires-clause-first
unfolding has_finished
step_worker-requires-clause-first c =
    let first = subst (λ e. IsFirst e c.args.worker) (sym c.self.view_is) c.requires.first in
    subst (HaveFinished c.args.worker) (sym c.as_mut_slice.ensures.value) first.first

pub step_worker-requires-clause-free : goal.step_worker-requires-clause-free
unfolding has_finished
step_worker-requires-clause-free c =
    let first = subst (λ e. IsFirst e c.args.worker) (sym c.self.view_is) c.requires.first in
    free-lent (record { flow = c.self.inside.flow; workers = c.self.inside.workers.items }) c.self.invariant c.as_mut_slice.result.now c.args.worker c.as_mut_slice.ensures.value
    (subst AreFree (sym c.self.view_is) c.requires.free)
    (ap (λ crew. (worker_state_at crew c.args.worker).finished) c.as_mut_slice.ensures.value ∙ first.unfinished)

pub step_worker-requires-clause-fed : goal.step_worker-requires-clause-fed
step_worker-requires-clause-fed c =
    fed-lent (record { flow = c.self.inside.flow; workers = c.self.inside.workers.items }) c.self.invariant c.as_mut_slice.result.now c.args.worker c.as_mut_slice.ensures.value
    (ap (λ d. is_short d c.args.worker) c.self.view_is ∙ c.requires.fed)

pub step_worker-requires-clause-own : goal.step_worker-requires-clause-own
step_worker-requires-clause-own c =
    own-lent (record { flow = c.self.inside.flow; workers = c.self.inside.workers.items }) c.self.invariant c.as_mut_slice.result.now c.args.worker (option_copied c.args.board)
    c.as_mut_slice.ensures.value (subst (λ d. IsBoardOf (option_copied c.args.board) (seat_of d c.args.worker)) (sym c.self.view_is) c.requires.own)

pub step_worker-requires-clause-few : goal.step_worker-requires-clause-few
step_worker-requires-clause-few c =
    let d : DataflowState = record { flow = c.self.inside.flow; workers = c.self.inside.workers.items } in
    let few : step_count d < 2 ^ 40 = subst (λ e. step_count e < 2 ^ 40) (sym c.self.view_is) c.requires.few in
    let one = few-lent d c.self.invariant c.as_mut_slice.result.now c.args.worker 1 c.as_mut_slice.ensures.value (omega arith) in
    omega arith

pub invariant_of-self : goal.invariant_of-self
invariant_of-self c =
    let i = c.self.inside in
    let d : DataflowState = record { flow = i.flow; workers = i.workers.items } in
    let few : step_count d < 2 ^ 40 = subst (λ e. step_count e < 2 ^ 40) (sym c.self.view_is) c.requires.few in
    let s = c.in-Ok.ensures in
    kept-stepped d c.self.invariant c.as_mut_slice.result.now c.step_worker.new.crew i.workers.len c.args.worker 1 c.as_mut_slice.ensures.value c.step_worker.auto.crew i.workers.ok.0
    (subst AreAllThere (sym c.self.view_is) c.requires.workers) s.turns
    (subst (λ d. StandsUnder (is_armed_at d c.args.worker) d c.args.worker) (sym c.self.view_is) c.requires.under) s.does few

pub returns-in-Ok-clause-steps : goal.returns-in-Ok-clause-steps
returns-in-Ok-clause-steps c =
    let i = c.self.inside in
    let d : DataflowState = record { flow = i.flow; workers = i.workers.items } in
    let worker = c.args.worker in
    let s = c.in-Ok.ensures in
    let there : AreAllThere d = subst AreAllThere (sym c.self.view_is) c.requires.workers in
    subst (λ e. StepsAt e (record { flow = i.flow; workers = take i.workers.len (c.step_worker.new.crew ++ drop (length c.step_worker.new.crew) i.workers.items) }) worker) c.self.view_is
    (record {
      turns = turned-back d c.self.invariant c.as_mut_slice.result.now c.step_worker.new.crew i.workers.len worker 1 c.as_mut_slice.ensures.value c.step_worker.auto.crew i.workers.ok.0 there s.turns;
      does = does-back d c.self.invariant c.as_mut_slice.result.now c.step_worker.new.crew i.workers.len worker 1 c.as_mut_slice.ensures.value c.step_worker.auto.crew i.workers.ok.0
          there s.turns s.does;
    })

pub returns-in-Ok-clause-own : goal.returns-in-Ok-clause-own
returns-in-Ok-clause-own c =
    let i = c.self.inside in
    let d : DataflowState = record { flow = i.flow; workers = i.workers.items } in
    let s = c.in-Ok.ensures in
    own-back d c.self.invariant c.as_mut_slice.result.now c.step_worker.new.crew i.workers.len c.args.worker 1 c.as_mut_slice.ensures.value c.step_worker.auto.crew i.workers.ok.0
    (subst AreAllThere (sym c.self.view_is) c.requires.workers) s.turns (option_copied c.args.board) s.own

pub invariant_of-self-in-Err : goal.invariant_of-self-in-Err
invariant_of-self-in-Err c =
    let i = c.self.inside in
    none-left (record { flow = i.flow; workers = i.workers.items }) c.self.invariant c.clear.new.self.items c.clear.ensures.items
