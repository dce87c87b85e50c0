-- The operator's workers have another constant.
use Rattle.std.proofs.Common.{◌≡◌, ap, subst, sym, ◌∙◌, length, map}
use Rattle.std.proofs.lemmas.List.{length-map}
use Rattle.amber_dataflow.specs.Dataflow.{HaveDoneNothing, IsDataflow, worker_set}
use Rattle.amber_dataflow.proofs.Kept.{kept-set, written-back}
use Rattle.amber_dataflow.proofs.dataflow.Dataflow.set.Goals as goal

pub invariant_of-self : goal.invariant_of-self
invariant_of-self c =
    let i = c.self.inside in
    let crew = i.workers.items in
    let change = worker_set c.args.op c.args.value.now in
    let handed : c.set_workers.new.crew ≡ map change crew = c.set_workers.ensures ∙ ap (map change) c.as_mut_slice.ensures.value in
    let back = written-back crew c.set_workers.new.crew i.workers.len (ap length handed ∙ length-map crew change) i.workers.ok.0 ∙ handed in
    subst (λ workers. IsDataflow (record { flow = i.flow; workers = workers })) (sym back)
    (kept-set (record { flow = i.flow; workers = crew }) c.args.op c.args.value.now c.self.invariant (subst HaveDoneNothing (sym c.self.view_is) c.requires.rest))
