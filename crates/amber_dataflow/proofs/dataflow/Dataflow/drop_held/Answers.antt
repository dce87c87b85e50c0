-- The worker is there, and its row is gone.
use Rattle.std.proofs.Common.{◌≡◌, ◌<◌, ap, subst, sym, ◌∙◌, set}
use Rattle.amber_rows.specs.Topology.{crew_of}
use Rattle.amber_worker.specs.Changes.{held_dropped, row_held}
use Rattle.amber_dataflow.specs.AtWork.{worker_state_at}
use Rattle.amber_dataflow.specs.Dataflow.{AreAllThere, AreHeldByRows, DataflowState, HaveDoneNothing, IsDataflow, row_held_at}
use Rattle.amber_dataflow.proofs.Dropped.{kept-dropped}
use Rattle.amber_dataflow.proofs.Split.{read-at}
use Rattle.amber_dataflow.proofs.dataflow.Dataflow.drop_held.Goals as goal

pub invariant_of-self : goal.invariant_of-self
invariant_of-self c =
    let i = c.self.inside in
    let d : DataflowState = record { flow = i.flow; workers = i.workers.items } in
    let there : AreAllThere d = subst AreAllThere (sym c.self.view_is) c.requires.workers in
    let inside : c.args.worker < crew_of i.flow = subst (λ (e : DataflowState). c.args.worker < crew_of e.flow) (sym c.self.view_is) c.requires.there in
    let now : c.drop_held.new.self ≡ held_dropped (worker_state_at i.workers.items c.args.worker) =
    c.drop_held.ensures.only ∙ ap held_dropped (c.index_mut.ensures.value ∙ read-at i.workers.items c.args.worker c.index_mut.result.now (rw there inside)) in
    let stand = c.self.invariant.stand there in
    subst (λ w. IsDataflow (record { flow = i.flow; workers = set i.workers.items c.args.worker w })) (sym now)
    (kept-dropped stand.0 stand.1 d stand.2 stand.3 (subst HaveDoneNothing (sym c.self.view_is) c.requires.rest) (subst AreHeldByRows (sym c.self.view_is) c.requires.rows)
    c.args.worker (subst (λ flow. c.args.worker < crew_of flow) stand.3.flow inside) c.self.invariant)

pub returns-clause-row : goal.returns-clause-row
unfolding row_held_at
returns-clause-row c =
    let i = c.self.inside in
    let d : DataflowState = record { flow = i.flow; workers = i.workers.items } in
    let there : AreAllThere d = subst AreAllThere (sym c.self.view_is) c.requires.workers in
    let inside : c.args.worker < crew_of i.flow = subst (λ (e : DataflowState). c.args.worker < crew_of e.flow) (sym c.self.view_is) c.requires.there in
    c.drop_held.ensures.row ∙ ap row_held (c.index_mut.ensures.value ∙ read-at i.workers.items c.args.worker c.index_mut.result.now (rw there inside))
    ∙ ap (λ (e : DataflowState). row_held_at e c.args.worker) c.self.view_is
