-- The steps are those of all workers.
use Rattle.std.proofs.Common.{sym, ap, subst, ◌∙◌, ◌≤◌, ◌^◌}
use Rattle.amber_dataflow.specs.AtWork.{steps_by}
use Rattle.amber_dataflow.specs.Dataflow.{step_count}
use Rattle.amber_dataflow.proofs.dataflow.Dataflow.steps.Goals as goal

pub steps_of-requires : goal.steps_of-requires
unfolding step_count
steps_of-requires c = subst (λ crew. steps_by crew ≤ 2 ^ 40) (sym c.as_slice.ensures.value) c.self.invariant.few

pub returns : goal.returns
unfolding step_count
returns c = c.steps_of.ensures ∙ ap steps_by c.as_slice.ensures.value ∙ ap step_count c.self.view_is
