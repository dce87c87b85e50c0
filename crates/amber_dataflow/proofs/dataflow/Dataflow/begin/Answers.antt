-- The workers stand where the leg begins.
use Rattle.std.proofs.Common.{◌≡◌, ap, subst, sym, ◌∙◌, length, map}
use Rattle.std.proofs.lemmas.List.{length-map}
use Rattle.amber_dataflow.specs.Dataflow.{IsDataflow, worker_begun}
use Rattle.amber_dataflow.proofs.Kept.{kept-begun, written-back}
use Rattle.amber_dataflow.proofs.dataflow.Dataflow.begin.Goals as goal

pub invariant_of-self : goal.invariant_of-self
invariant_of-self c =
    let i = c.self.inside in
    let crew = i.workers.items in
    let handed : c.begin_all.new.crew ≡ map (worker_begun c.args.to_end) crew = c.begin_all.ensures ∙ ap (map (worker_begun c.args.to_end)) c.as_mut_slice.ensures.value in
    let back = written-back crew c.begin_all.new.crew i.workers.len (ap length handed ∙ length-map crew (worker_begun c.args.to_end)) i.workers.ok.0 ∙ handed in
    subst (λ workers. IsDataflow (record { flow = i.flow; workers = workers })) (sym back) (kept-begun (record { flow = i.flow; workers = crew }) c.self.invariant c.args.to_end)
