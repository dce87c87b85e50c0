-- The row before which a worker of a home is held is that of the state.
use Rattle.std.proofs.Common.{◌≡◌, refl, sym, ap, subst, ◌∙◌, ℕ, ◌<◌, List, Option, None, Some, if◌then◌else◌}
use Rattle.amber_rows.specs.Lists.{first_of}
use Rattle.amber_rows.specs.Topology.{crew_of}
use Rattle.amber_rows.specs.declared.flow.Operator.{Operator}
use Rattle.amber_log.specs.declared.effect.Effect.{Effect}
use Rattle.amber_meaning.specs.Legal.{Query, role_in}
use Rattle.amber_meaning.specs.Position.{Position, Restraint, pending_rows}
use Rattle.amber_meaning.specs.State.{State, position_at, worker_at}
use Rattle.amber_meaning.specs.Transcript as transcript
use Rattle.amber_worker.specs.AtPosition.{placement_of}
use Rattle.amber_dataflow.specs.AtWork.{state_reached, worker_state_at}
use Rattle.amber_dataflow.specs.Dataflow.{DataflowState, StandAt, row_held_at}
use Rattle.amber_dataflow.proofs.Standing.{stand-position}
use Rattle.amber_home.specs.Applied.{HasNamed, dropped_row}
use Rattle.amber_home.specs.HomeState.{HomeState, dropped_in, query_of, rest_state}
use Rattle.amber_home.specs.Kept.{IsHome, LiveState}
use Rattle.amber_home.specs.declared.phase.Phase.TheVariants as phase
use Rattle.amber_home.proofs.Homes.{at-rest}
use Rattle.amber_home.proofs.Opened.{listed-rest}

-- wherever workers stand
pub held-row : (query : Query) (start : State) (d : DataflowState) (positions : ℕ → Position) → StandAt query start d positions → (worker : ℕ) → worker < crew_of query.flow
    → row_held_at d worker ≡ transcript.held_row query (state_reached query start positions) worker
unfolding row_held_at placement_of
held-row query start d positions stand worker inside =
    let shows = (stand.work.at.at_positions.each worker inside).shows in
    let w = worker_state_at d.workers worker in
    ap (λ (r : Restraint). if r.held then first_of w.pending else None) shows.restraint
    ∙ ap (λ rows. if (positions worker).restraint.held then first_of rows else None) shows.pending
    ∙ ap (λ (p : Position). if p.restraint.held then first_of (pending_rows (role_in query worker) p) else None) (sym (stand-position query start d positions stand worker inside))

module _ (e : HomeState) (live : LiveState) where
  -- the row that a command drops
  pub dropped-resting : IsHome e live → e.phase ≡ phase.Resting → (effect : Effect) → HasNamed live.dataflow effect.op effect.drops
      → dropped_row effect.op effect.drops live.dataflow ≡ dropped_in (query_of e) (rest_state e) effect.op effect.drops
  dropped-resting home resting effect = by effect.drops
    where
      by : (drops : Option ℕ) → HasNamed live.dataflow effect.op drops → dropped_row effect.op drops live.dataflow ≡ dropped_in (query_of e) (rest_state e) effect.op drops
      by None inside = refl
      by (Some w) inside =
          let rest = at-rest e live home resting in
          let same : worker_at live.dataflow.flow effect.op w ≡ worker_at e.flow effect.op w = ap (λ (f : List Operator). worker_at f effect.op w) rest.at.flow in
          ap (row_held_at live.dataflow) same
          ∙ held-row (query_of e) (rest_state e) live.dataflow (position_at (rest_state e).positions) rest.at (worker_at e.flow effect.op w)
          (subst (λ (f : List Operator). worker_at f effect.op w < crew_of f) rest.at.flow inside)
          ∙ ap (λ (s : State). transcript.held_row (query_of e) s (worker_at e.flow effect.op w)) (listed-rest e live rest home.legal)
