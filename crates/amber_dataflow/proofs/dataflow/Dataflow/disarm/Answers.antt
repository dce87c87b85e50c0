-- The worker is there, and stands again without its seat.
use Rattle.std.proofs.Common.{◌≡◌, ◌<◌, Some, true, refl, ap, subst, sym, ◌∙◌, length, set}
use Rattle.amber_rows.specs.Topology.{crew_of}
use Rattle.amber_worker.specs.AtPosition.{KeepsUnder}
use Rattle.amber_worker.specs.Changes.{disarmed_at}
use Rattle.amber_worker.specs.Counting.{GivesBack, IsBoardOf}
use Rattle.amber_worker.specs.WorkerState.{WorkerState}
use Rattle.amber_dataflow.specs.AtWork.{worker_state_at}
use Rattle.amber_dataflow.specs.Dataflow.{AreAllThere, DataflowState, IsDataflow, MovesUnder, StandsUnder, has_room, seat_of}
use Rattle.amber_dataflow.proofs.Seated.{kept-put, moves-put}
use Rattle.amber_dataflow.proofs.Split.{read-at}
use Rattle.amber_dataflow.proofs.dataflow.Dataflow.disarm.Goals as goal

pub disarm-requires-clause-own : goal.disarm-requires-clause-own
unfolding seat_of
disarm-requires-clause-own c =
    let i = c.self.inside in
    let d : DataflowState = record { flow = i.flow; workers = i.workers.items } in
    let there : AreAllThere d = subst AreAllThere (sym c.self.view_is) c.requires.workers in
    let inside : c.args.worker < crew_of i.flow = subst (λ (e : DataflowState). c.args.worker < crew_of e.flow) (sym c.self.view_is) c.requires.there in
    let within : c.args.worker < length i.workers.items = rw there inside in
    let read : c.index_mut.result.now ≡ worker_state_at i.workers.items c.args.worker = c.index_mut.ensures.value ∙ read-at i.workers.items c.args.worker c.index_mut.result.now within in
    subst (λ (w : WorkerState). IsBoardOf (Some c.args.board.now) w.seat) (sym read)
    (subst (λ (e : DataflowState). IsBoardOf (Some c.args.board.now) (seat_of e c.args.worker)) (sym c.self.view_is) c.requires.own)

pub disarm-requires-clause-reserved : goal.disarm-requires-clause-reserved
unfolding has_room
disarm-requires-clause-reserved c =
    let i = c.self.inside in
    let d : DataflowState = record { flow = i.flow; workers = i.workers.items } in
    let there : AreAllThere d = subst AreAllThere (sym c.self.view_is) c.requires.workers in
    let inside : c.args.worker < crew_of i.flow = subst (λ (e : DataflowState). c.args.worker < crew_of e.flow) (sym c.self.view_is) c.requires.there in
    let within : c.args.worker < length i.workers.items = rw there inside in
    let read : c.index_mut.result.now ≡ worker_state_at i.workers.items c.args.worker = c.index_mut.ensures.value ∙ read-at i.workers.items c.args.worker c.index_mut.result.now within in
    ap (λ (w : WorkerState). w.reserved) read ∙ ap (λ (e : DataflowState). has_room e c.args.worker) c.self.view_is ∙ c.requires.reserved

pub invariant_of-self : goal.invariant_of-self
invariant_of-self c =
    let i = c.self.inside in
    let d : DataflowState = record { flow = i.flow; workers = i.workers.items } in
    let there : AreAllThere d = subst AreAllThere (sym c.self.view_is) c.requires.workers in
    let inside : c.args.worker < crew_of i.flow = subst (λ (e : DataflowState). c.args.worker < crew_of e.flow) (sym c.self.view_is) c.requires.there in
    let within : c.args.worker < length i.workers.items = rw there inside in
    let read : c.index_mut.result.now ≡ worker_state_at i.workers.items c.args.worker = c.index_mut.ensures.value ∙ read-at i.workers.items c.args.worker c.index_mut.result.now within in
    let w = worker_state_at i.workers.items c.args.worker in
    let keeps : KeepsUnder true w (disarmed_at w) =
    subst (λ v. KeepsUnder true v (disarmed_at v)) read (subst (KeepsUnder true c.index_mut.result.now) c.disarm.ensures.only c.disarm.ensures.keeps) in
    subst (λ v. IsDataflow (record { flow = i.flow; workers = set i.workers.items c.args.worker v })) (sym (c.disarm.ensures.only ∙ ap disarmed_at read))
    (kept-put d c.args.worker (disarmed_at w) within (record { number = refl; ins = refl; outs = refl }) true keeps refl
    (subst (λ e. StandsUnder true e c.args.worker) (sym c.self.view_is) c.requires.under) c.self.invariant)

pub returns-clause-gives : goal.returns-clause-gives
unfolding seat_of
returns-clause-gives c =
    let i = c.self.inside in
    let d : DataflowState = record { flow = i.flow; workers = i.workers.items } in
    let there : AreAllThere d = subst AreAllThere (sym c.self.view_is) c.requires.workers in
    let inside : c.args.worker < crew_of i.flow = subst (λ (e : DataflowState). c.args.worker < crew_of e.flow) (sym c.self.view_is) c.requires.there in
    let within : c.args.worker < length i.workers.items = rw there inside in
    let read : c.index_mut.result.now ≡ worker_state_at i.workers.items c.args.worker = c.index_mut.ensures.value ∙ read-at i.workers.items c.args.worker c.index_mut.result.now within in
    subst (λ (e : DataflowState). GivesBack (seat_of e c.args.worker) (Some c.disarm.result)) c.self.view_is
    (subst (λ (w : WorkerState). GivesBack w.seat (Some c.disarm.result)) read c.disarm.ensures.gives)

pub returns-clause-stand : goal.returns-clause-stand
returns-clause-stand c =
    let i = c.self.inside in
    let d : DataflowState = record { flow = i.flow; workers = i.workers.items } in
    let there : AreAllThere d = subst AreAllThere (sym c.self.view_is) c.requires.workers in
    let inside : c.args.worker < crew_of i.flow = subst (λ (e : DataflowState). c.args.worker < crew_of e.flow) (sym c.self.view_is) c.requires.there in
    let within : c.args.worker < length i.workers.items = rw there inside in
    let read : c.index_mut.result.now ≡ worker_state_at i.workers.items c.args.worker = c.index_mut.ensures.value ∙ read-at i.workers.items c.args.worker c.index_mut.result.now within in
    let w = worker_state_at i.workers.items c.args.worker in
    let keeps : KeepsUnder true w (disarmed_at w) =
    subst (λ v. KeepsUnder true v (disarmed_at v)) read (subst (KeepsUnder true c.index_mut.result.now) c.disarm.ensures.only c.disarm.ensures.keeps) in
    subst (λ e. MovesUnder true e (record { flow = i.flow; workers = set i.workers.items c.args.worker c.disarm.new.self }) c.args.worker) c.self.view_is
    (subst (λ v. MovesUnder true d (record { flow = i.flow; workers = set i.workers.items c.args.worker v }) c.args.worker) (sym (c.disarm.ensures.only ∙ ap disarmed_at read))
    (moves-put d c.args.worker (disarmed_at w) within (record { number = refl; ins = refl; outs = refl }) true keeps))
