-- The operator's workers watch for nothing.
use Rattle.std.proofs.Common.{◌≡◌, None, ap, subst, sym, ◌∙◌, length, map}
use Rattle.std.proofs.lemmas.List.{length-map}
use Rattle.amber_dataflow.specs.Dataflow.{HaveDoneNothing, IsDataflow, worker_watching}
use Rattle.amber_dataflow.proofs.Kept.{kept-watched, nothing-lent, written-back}
use Rattle.amber_dataflow.proofs.dataflow.Dataflow.unwatch.Goals as goal

pub unwatch_workers-requires : goal.unwatch_workers-requires
unwatch_workers-requires c =
    nothing-lent (record { flow = c.self.inside.flow; workers = c.self.inside.workers.items }) c.as_mut_slice.result.now c.as_mut_slice.ensures.value
    (subst HaveDoneNothing (sym c.self.view_is) c.requires.rest)

pub invariant_of-self : goal.invariant_of-self
invariant_of-self c =
    let i = c.self.inside in
    let crew = i.workers.items in
    let change = worker_watching c.args.op None in
    let handed : c.unwatch_workers.new.crew ≡ map change crew = c.unwatch_workers.ensures ∙ ap (map change) c.as_mut_slice.ensures.value in
    let back = written-back crew c.unwatch_workers.new.crew i.workers.len (ap length handed ∙ length-map crew change) i.workers.ok.0 ∙ handed in
    subst (λ workers. IsDataflow (record { flow = i.flow; workers = workers })) (sym back)
    (kept-watched (record { flow = i.flow; workers = crew }) c.args.op None c.self.invariant (subst HaveDoneNothing (sym c.self.view_is) c.requires.rest))
