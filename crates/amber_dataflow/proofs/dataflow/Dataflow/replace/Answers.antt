-- A worker becomes one that shows where it stands.
use Rattle.std.proofs.Common.{◌≡◌, ◌<◌, ap, subst, sym, ◌∙◌, set}
use Rattle.amber_rows.specs.Topology.{crew_of}
use Rattle.amber_worker.specs.Replacing.{with_links_of}
use Rattle.amber_worker.specs.WorkerState.{WorkerState}
use Rattle.amber_dataflow.specs.AtWork.{worker_state_at}
use Rattle.amber_dataflow.specs.Dataflow.{AreAllThere, DataflowState, HaveDoneNothing, IsDataflow, StandAt, seat_of}
use Rattle.amber_dataflow.specs.Replacing.{MayReplace, StandReplaced}
use Rattle.amber_dataflow.proofs.Replaced.{kept-replaced, stand-replaced}
use Rattle.amber_dataflow.proofs.Split.{read-at}
use Rattle.amber_dataflow.proofs.dataflow.Dataflow.replace.Goals as goal

pub replace_with-requires-clause-unarmed : goal.replace_with-requires-clause-unarmed
unfolding seat_of
replace_with-requires-clause-unarmed c =
    let i = c.self.inside in
    let d : DataflowState = record { flow = i.flow; workers = i.workers.items } in
    let there : AreAllThere d = subst AreAllThere (sym c.self.view_is) c.requires.workers in
    let inside : c.args.worker < crew_of i.flow = subst (λ (e : DataflowState). c.args.worker < crew_of e.flow) (sym c.self.view_is) c.requires.there in
    ap (λ (w : WorkerState). w.seat) (c.index_mut.ensures.value ∙ read-at i.workers.items c.args.worker c.index_mut.result.now (rw there inside))
    ∙ ap (λ (e : DataflowState). seat_of e c.args.worker) c.self.view_is ∙ c.requires.unarmed

pub invariant_of-self : goal.invariant_of-self
invariant_of-self c =
    let i = c.self.inside in
    let d : DataflowState = record { flow = i.flow; workers = i.workers.items } in
    let there : AreAllThere d = subst AreAllThere (sym c.self.view_is) c.requires.workers in
    let inside : c.args.worker < crew_of i.flow = subst (λ (e : DataflowState). c.args.worker < crew_of e.flow) (sym c.self.view_is) c.requires.there in
    let may : MayReplace d c.args.worker c.args.made = subst (λ e. MayReplace e c.args.worker c.args.made) (sym c.self.view_is) c.requires.may in
    let now : c.replace_with.new.self ≡ with_links_of (worker_state_at i.workers.items c.args.worker) c.args.made =
    c.replace_with.ensures.only ∙ ap (λ w. with_links_of w c.args.made) (c.index_mut.ensures.value ∙ read-at i.workers.items c.args.worker c.index_mut.result.now (rw there inside)) in
    subst (λ w. IsDataflow (record { flow = i.flow; workers = set i.workers.items c.args.worker w })) (sym now)
    (kept-replaced may.0 may.1 d may.2 may.3 (subst HaveDoneNothing (sym c.self.view_is) c.requires.rest) c.args.worker
    (subst (λ flow. c.args.worker < crew_of flow) may.3.flow inside) c.args.made c.requires.made_rest may.4 c.self.invariant)

pub returns-clause-stand : goal.returns-clause-stand
unfolding StandReplaced
returns-clause-stand c =
    let i = c.self.inside in
    let d : DataflowState = record { flow = i.flow; workers = i.workers.items } in
    let there : AreAllThere d = subst AreAllThere (sym c.self.view_is) c.requires.workers in
    let inside : c.args.worker < crew_of i.flow = subst (λ (e : DataflowState). c.args.worker < crew_of e.flow) (sym c.self.view_is) c.requires.there in
    let now : c.replace_with.new.self ≡ with_links_of (worker_state_at i.workers.items c.args.worker) c.args.made =
    c.replace_with.ensures.only ∙ ap (λ w. with_links_of w c.args.made) (c.index_mut.ensures.value ∙ read-at i.workers.items c.args.worker c.index_mut.result.now (rw there inside)) in
    λ query start positions stand for.
    let here : StandAt query start d positions = subst (λ e. StandAt query start e positions) (sym c.self.view_is) stand in
    subst (λ w. StandAt query start (record { flow = i.flow; workers = set i.workers.items c.args.worker w }) positions) (sym now)
    (stand-replaced query start d positions here (subst HaveDoneNothing (sym c.self.view_is) c.requires.rest) c.args.worker
    (subst (λ flow. c.args.worker < crew_of flow) here.flow inside) c.args.made c.requires.made_rest for)
