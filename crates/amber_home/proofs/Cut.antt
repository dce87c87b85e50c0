-- What a close leaves in force is what the definitions say.
use Rattle.std.proofs.Common.{◌≡◌, refl, sym, ap, subst, ◌∙◌, ℕ, List, [], ◌∷◌, map, Bool, true, false}
use Rattle.amber_rows.specs.declared.flow.Operator.{Operator}
use Rattle.amber_log.specs.declared.leg.Close.{Close}
use Rattle.amber_log.specs.declared.leg.Close.TheVariants as close
use Rattle.amber_meaning.specs.Legal.{Query}
use Rattle.amber_meaning.specs.Position.{Position}
use Rattle.amber_meaning.specs.State.{State, emitted_by}
use Rattle.amber_meaning.specs.Stops.{op_numbers, without_stops}
use Rattle.amber_dataflow.specs.AtWork.{state_reached}
use Rattle.amber_dataflow.specs.Dataflow.{DataflowState, StandAt}
use Rattle.amber_dataflow.proofs.Standing.{stand-emitted}
use Rattle.amber_home.specs.Asked.{Asked, IsInForce, asked_at, asked_left}
use Rattle.amber_home.specs.Leg.{closed_arms, cut_arms, cut_at}
use Rattle.amber_home.proofs.Closed.{closed_state}
use Rattle.amber_home.proofs.InForce.{in-force-cut}
use Rattle.amber_home.proofs.Reached.{in-force-reached}

map-each : {A : Type 0} (f g : ℕ → A) (xs : List ℕ) → ((x : ℕ) → f x ≡ g x) → map f xs ≡ map g xs
map-each f g [] same = refl
map-each f g (x ∷ xs) same = rw (same x, map-each f g xs same) refl

module _ (query : Query) (start : State) (d : DataflowState) (positions : ℕ → Position) (stand : StandAt query start d positions)
    (arms : List Asked) (is : IsInForce query.flow start arms) where
  abbrev reached : State
  reached = state_reached query start positions

  -- what the home takes away is what the definitions do
  cut-same : map (λ op. asked_left (emitted_by query.flow reached op) (asked_at arms op)) (op_numbers query.flow) ≡ cut_arms arms d
  cut-same =
      map-each (λ op. asked_left (emitted_by query.flow reached op) (asked_at arms op)) (cut_at arms d) (op_numbers query.flow)
      (λ op. ap (λ rows. asked_left rows (asked_at arms op)) (stand-emitted query start d positions stand op))
      ∙ ap (λ (f : List Operator). map (cut_at arms d) (op_numbers f)) (sym stand.flow)

  -- after a close it keeps what is in force
  pub in-force-closed : (to_end : Bool) (closed : Close) → IsInForce query.flow (closed_state to_end query reached closed) (closed_arms to_end closed arms d)
  in-force-closed true closed = in-force-reached query start d positions stand arms is
  in-force-closed false close.Cut =
      subst (IsInForce query.flow (without_stops query.flow reached)) cut-same
      (in-force-cut query.flow reached arms (in-force-reached query start d positions stand arms is))
  in-force-closed false close.Long = in-force-reached query start d positions stand arms is
