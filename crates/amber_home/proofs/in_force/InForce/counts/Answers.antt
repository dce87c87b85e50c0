-- All operators' counts are there.
use Rattle.std.proofs.Common.{ap, ◌∙◌, map}
use Rattle.std.proofs.lemmas.List.{take_all}
use Rattle.amber_home.specs.Asked.{Asked}
use Rattle.amber_home.proofs.in_force.InForce.counts.Goals as goal

pub returns : goal.returns
returns c =
    c.loop-armed.invariant ∙ ap (map (λ (asked : Asked). asked.count)) (take_all c.loop-armed.armed-index c.as_slice-arms.result.now c.loop-armed-test.false)
    ∙ ap (map (λ (asked : Asked). asked.count)) (c.as_slice-arms.ensures.value ∙ c.self.view_is)
