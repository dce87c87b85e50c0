-- The workers have handed out their journals, or none is left.
use Rattle.std.proofs.Common.{◌≡◌, sym, ap, subst, ◌∙◌, ◌<◌, ◌^◌, length, map}
use Rattle.std.proofs.lemmas.List.{length-map}
use Rattle.amber_dataflow.specs.Dataflow.{AreAllThere, IsDataflow, leg_parts}
use Rattle.amber_dataflow.specs.Parts.{parts_from, without_journal}
use Rattle.amber_dataflow.proofs.Kept.{few-workers, kept-handed_out, none-left, written-back}
use Rattle.amber_dataflow.proofs.dataflow.Dataflow.take_parts.Goals as goal

pub take_parts-requires : goal.take_parts-requires
take_parts-requires c =
    let i = c.self.inside in
    subst (λ crew. length crew < 2 ^ 32) (sym c.as_mut_slice.ensures.value) (few-workers (record { flow = i.flow; workers = i.workers.items }) (subst AreAllThere (sym c.self.view_is) c.requires) c.self.invariant)

pub invariant_of-self : goal.invariant_of-self
invariant_of-self c =
    let i = c.self.inside in
    let crew = i.workers.items in
    let handed : c.take_parts.new.crew ≡ map without_journal crew = c.in-Ok.ensures.crew ∙ ap (map without_journal) c.as_mut_slice.ensures.value in
    let back = written-back crew c.take_parts.new.crew i.workers.len (ap length handed ∙ length-map crew without_journal) i.workers.ok.0 ∙ handed in
    subst (λ workers. IsDataflow (record { flow = i.flow; workers = workers })) (sym back) (kept-handed_out (record { flow = i.flow; workers = crew }) c.self.invariant)

pub invariant_of-self-in-Err : goal.invariant_of-self-in-Err
invariant_of-self-in-Err c =
    let i = c.self.inside in
    none-left (record { flow = i.flow; workers = i.workers.items }) c.self.invariant c.clear.new.self.items c.clear.ensures.items

pub returns-in-Ok-clause-parts : goal.returns-in-Ok-clause-parts
unfolding leg_parts
returns-in-Ok-clause-parts c = c.in-Ok.ensures.parts ∙ ap (parts_from 0) c.as_mut_slice.ensures.value ∙ ap leg_parts c.self.view_is
