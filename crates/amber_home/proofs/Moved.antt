-- A home after a step: one more was made, or none was and a worker is held.
use Rattle.std.proofs.Common.{◌≡◌, sym, ap, subst, ◌∙◌, ◌+◌, ◌<◌, List, true, inl, inr}
use Rattle.amber_rows.specs.Topology.{crew_of}
use Rattle.amber_rows.specs.declared.flow.Operator.{Operator}
use Rattle.amber_home.specs.Going.{StepsNext}
use Rattle.amber_home.specs.HomeState.{HomeState, MovesOrHolds, has_crew}
use Rattle.amber_home.specs.Kept.{IsHome, LiveState}
use Rattle.amber_home.specs.declared.phase.Phase.{Phase}
use Rattle.amber_home.proofs.Fed.{fed-steps}
use Rattle.amber_home.proofs.PauseOver.{held-at}
use Rattle.amber_home.proofs.Saying.{in_phase}
use Rattle.amber_home.proofs.Steps.{steps-are}

module _ (old new : HomeState) (live later : LiveState) (was now : Phase) (home : IsHome (record old { phase = was }) live) (after : IsHome (record new { phase = now }) later)
    (there : has_crew was ≡ true) (here : has_crew now ≡ true) (flow : later.dataflow.flow ≡ new.flow) (next : StepsNext live.boards live.dataflow later.dataflow) where
  pub moves-home : MovesOrHolds (in_phase old live was) (in_phase new later now)
  moves-home =
      let worker = next.steps.worker in
      let fed = fed-steps live.arms live.boards live.dataflow next.fed worker next.feeds in
      let before = steps-are old live was home there in
      let made = steps-are new later now after here in
      let inside : worker < crew_of later.dataflow.flow = subst (λ (f : List Operator). worker < crew_of f) (sym next.steps.steps.turns.flow) next.steps.is.there in
      elim next.steps.steps.does [
        | inl one ↦ inl (sym made ∙ one.one ∙ ap (λ m. m + 1) (fed ∙ before))
        | inr held ↦ inr (sym made ∙ held.none ∙ fed ∙ before, (worker, sym (held-at new later now after here flow worker inside) ∙ held.held))
      ]
