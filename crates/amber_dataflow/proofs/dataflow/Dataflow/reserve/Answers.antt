-- The worker is there, and stands where it stood.
use Rattle.std.proofs.Common.{◌≡◌, ◌<◌, true, subst, sym, ◌∙◌, length}
use Rattle.std.specs.Result.{OnErr, OnOk}
use Rattle.amber_rows.specs.Topology.{crew_of}
use Rattle.amber_worker.specs.WorkerState.{WorkerState}
use Rattle.amber_dataflow.specs.AtWork.{worker_state_at}
use Rattle.amber_dataflow.specs.Dataflow.{AreAllThere, DataflowState}
use Rattle.amber_dataflow.proofs.Seated.{kept-room}
use Rattle.amber_dataflow.proofs.Split.{read-at}
use Rattle.amber_dataflow.proofs.dataflow.Dataflow.reserve.Goals as goal

pub invariant_of-self : goal.invariant_of-self
invariant_of-self c =
    let i = c.self.inside in
    let d : DataflowState = record { flow = i.flow; workers = i.workers.items } in
    let there : AreAllThere d = subst AreAllThere (sym c.self.view_is) c.requires.workers in
    let inside : c.args.worker < crew_of i.flow = subst (λ (e : DataflowState). c.args.worker < crew_of e.flow) (sym c.self.view_is) c.requires.there in
    let within : c.args.worker < length i.workers.items = rw there inside in
    let read : c.index_mut.result.now ≡ worker_state_at i.workers.items c.args.worker = c.index_mut.ensures.value ∙ read-at i.workers.items c.args.worker c.index_mut.result.now within in
    kept-room d c.args.worker c.reserve.new.self within there c.self.invariant c.reserve.result
    (subst (λ (w : WorkerState). OnOk c.reserve.result (c.reserve.new.self ≡ record w { reserved = true })) read c.reserve.ensures.ok)
    (subst (λ (w : WorkerState). OnErr c.reserve.result (c.reserve.new.self ≡ w)) read c.reserve.ensures.err)
