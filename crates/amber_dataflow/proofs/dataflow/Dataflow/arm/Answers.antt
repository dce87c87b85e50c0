-- The worker is there, and stands again with its seat.
use Rattle.std.proofs.Common.{◌≡◌, ◌<◌, true, refl, ap, subst, sym, ◌∙◌, length, set}
use Rattle.amber_rows.specs.Topology.{crew_of}
use Rattle.amber_worker.specs.AtPosition.{KeepsUnder}
use Rattle.amber_worker.specs.Changes.{armed_at}
use Rattle.amber_worker.specs.WorkerState.{WorkerState}
use Rattle.amber_dataflow.specs.AtWork.{worker_state_at}
use Rattle.amber_dataflow.specs.Dataflow.{AreAllThere, DataflowState, IsDataflow, MovesUnder, StandsUnder, has_finished, has_room, seat_of}
use Rattle.amber_dataflow.proofs.Seated.{kept-put, moves-put}
use Rattle.amber_dataflow.proofs.Split.{read-at}
use Rattle.amber_dataflow.proofs.dataflow.Dataflow.arm.Goals as goal

pub arm-requires-clause-unarmed : goal.arm-requires-clause-unarmed
unfolding seat_of
arm-requires-clause-unarmed c =
    let i = c.self.inside in
    let d : DataflowState = record { flow = i.flow; workers = i.workers.items } in
    let there : AreAllThere d = subst AreAllThere (sym c.self.view_is) c.requires.workers in
    let inside : c.args.worker < crew_of i.flow = subst (λ (e : DataflowState). c.args.worker < crew_of e.flow) (sym c.self.view_is) c.requires.there in
    let within : c.args.worker < length i.workers.items = rw there inside in
    let read : c.index_mut.result.now ≡ worker_state_at i.workers.items c.args.worker = c.index_mut.ensures.value ∙ read-at i.workers.items c.args.worker c.index_mut.result.now within in
    ap (λ (w : WorkerState). w.seat) read ∙ ap (λ (e : DataflowState). seat_of e c.args.worker) c.self.view_is ∙ c.requires.unarmed

pub arm-requires-clause-unfinished : goal.arm-requires-clause-unfinished
unfolding has_finished
arm-requires-clause-unfinished c some =
    let i = c.self.inside in
    let d : DataflowState = record { flow = i.flow; workers = i.workers.items } in
    let there : AreAllThere d = subst AreAllThere (sym c.self.view_is) c.requires.workers in
    let inside : c.args.worker < crew_of i.flow = subst (λ (e : DataflowState). c.args.worker < crew_of e.flow) (sym c.self.view_is) c.requires.there in
    let within : c.args.worker < length i.workers.items = rw there inside in
    let read : c.index_mut.result.now ≡ worker_state_at i.workers.items c.args.worker = c.index_mut.ensures.value ∙ read-at i.workers.items c.args.worker c.index_mut.result.now within in
    ap (λ (w : WorkerState). w.finished) read ∙ ap (λ (e : DataflowState). has_finished e c.args.worker) c.self.view_is ∙ c.requires.unfinished some

pub arm-requires-clause-reserved : goal.arm-requires-clause-reserved
unfolding has_room
arm-requires-clause-reserved c some =
    let i = c.self.inside in
    let d : DataflowState = record { flow = i.flow; workers = i.workers.items } in
    let there : AreAllThere d = subst AreAllThere (sym c.self.view_is) c.requires.workers in
    let inside : c.args.worker < crew_of i.flow = subst (λ (e : DataflowState). c.args.worker < crew_of e.flow) (sym c.self.view_is) c.requires.there in
    let within : c.args.worker < length i.workers.items = rw there inside in
    let read : c.index_mut.result.now ≡ worker_state_at i.workers.items c.args.worker = c.index_mut.ensures.value ∙ read-at i.workers.items c.args.worker c.index_mut.result.now within in
    ap (λ (w : WorkerState). w.reserved) read ∙ ap (λ (e : DataflowState). has_room e c.args.worker) c.self.view_is ∙ c.requires.reserved some

pub invariant_of-self : goal.invariant_of-self
invariant_of-self c =
    let i = c.self.inside in
    let d : DataflowState = record { flow = i.flow; workers = i.workers.items } in
    let there : AreAllThere d = subst AreAllThere (sym c.self.view_is) c.requires.workers in
    let inside : c.args.worker < crew_of i.flow = subst (λ (e : DataflowState). c.args.worker < crew_of e.flow) (sym c.self.view_is) c.requires.there in
    let within : c.args.worker < length i.workers.items = rw there inside in
    let read : c.index_mut.result.now ≡ worker_state_at i.workers.items c.args.worker = c.index_mut.ensures.value ∙ read-at i.workers.items c.args.worker c.index_mut.result.now within in
    let w = worker_state_at i.workers.items c.args.worker in
    let keeps : KeepsUnder true w (armed_at c.args.seat w) =
    subst (λ v. KeepsUnder true v (armed_at c.args.seat v)) read (subst (KeepsUnder true c.index_mut.result.now) c.arm.ensures.only c.arm.ensures.keeps) in
    subst (λ v. IsDataflow (record { flow = i.flow; workers = set i.workers.items c.args.worker v })) (sym (c.arm.ensures.only ∙ ap (armed_at c.args.seat) read))
    (kept-put d c.args.worker (armed_at c.args.seat w) within (record { number = refl; ins = refl; outs = refl }) true keeps refl
    (subst (λ e. StandsUnder true e c.args.worker) (sym c.self.view_is) c.requires.under) c.self.invariant)

pub returns-clause-stand : goal.returns-clause-stand
returns-clause-stand c =
    let i = c.self.inside in
    let d : DataflowState = record { flow = i.flow; workers = i.workers.items } in
    let there : AreAllThere d = subst AreAllThere (sym c.self.view_is) c.requires.workers in
    let inside : c.args.worker < crew_of i.flow = subst (λ (e : DataflowState). c.args.worker < crew_of e.flow) (sym c.self.view_is) c.requires.there in
    let within : c.args.worker < length i.workers.items = rw there inside in
    let read : c.index_mut.result.now ≡ worker_state_at i.workers.items c.args.worker = c.index_mut.ensures.value ∙ read-at i.workers.items c.args.worker c.index_mut.result.now within in
    let w = worker_state_at i.workers.items c.args.worker in
    let keeps : KeepsUnder true w (armed_at c.args.seat w) =
    subst (λ v. KeepsUnder true v (armed_at c.args.seat v)) read (subst (KeepsUnder true c.index_mut.result.now) c.arm.ensures.only c.arm.ensures.keeps) in
    subst (λ e. MovesUnder true e (record { flow = i.flow; workers = set i.workers.items c.args.worker c.arm.new.self }) c.args.worker) c.self.view_is
    (subst (λ v. MovesUnder true d (record { flow = i.flow; workers = set i.workers.items c.args.worker v }) c.args.worker) (sym (c.arm.ensures.only ∙ ap (armed_at c.args.seat) read))
    (moves-put d c.args.worker (armed_at c.args.seat w) within (record { number = refl; ins = refl; outs = refl }) true keeps))
