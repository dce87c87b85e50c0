-- Who is held stands before a row: so it is at rest, and within a leg.
use Rattle.std.proofs.Common.{◌≡◌, refl, sym, ap, subst, ◌∙◌, ℕ, zero, suc, ◌<◌, List, [], ◌∷◌, drop, length, is_some, if◌then◌else◌, Bool, None, true, inl, inr, arith}
use Rattle.std.proofs.lemmas.Bool.{cases_lt, false≢true}
use Rattle.std.proofs.Math.ListN.{get_or-eq_default}
use Rattle.amber_rows.specs.Lists.{first_of}
use Rattle.amber_rows.specs.Topology.{crew_of}
use Rattle.amber_lines.proofs.Bounded.{IsBounded}
use Rattle.amber_lines.proofs.BoundedLogs.{AreBounded, legal-bounded}
use Rattle.amber_meaning.specs.Legal.{IsLegal, Query, role_in}
use Rattle.amber_meaning.specs.Position.{Position, Restraint}
use Rattle.amber_meaning.specs.State.{State, position_at}
use Rattle.amber_worker.specs.WorkerState.{WorkerState}
use Rattle.amber_dataflow.specs.AtWork.{no_worker_state, worker_state_at}
use Rattle.amber_dataflow.specs.Dataflow.{AreHeldByRows, DataflowState, StandAt, row_held_at, is_held}
use Rattle.amber_dataflow.proofs.Standing.{stand-all, stand-position}
use Rattle.amber_home.specs.Asked.{Asked}
use Rattle.amber_home.specs.HomeState.{HomeState, query_of, rest_state}
use Rattle.amber_home.specs.Kept.{IsAtRest, IsWithinLeg, LiveState}
use Rattle.amber_home.proofs.Closed.{bounded-within}
use Rattle.amber_home.proofs.Opened.{first-rest}

-- a row behind so many
behind-some : {A : Type 0} (n : ℕ) (xs : List A) → n < length xs → is_some (first_of (drop n xs)) ≡ true
behind-some n [] less = absurd (omega arith)
behind-some zero (x ∷ xs) less = refl
behind-some (suc n) (x ∷ xs) less = behind-some n xs (omega arith)

module _ (query : Query) (start : State) (d : DataflowState) (positions : ℕ → Position) (stand : StandAt query start d positions) where
  -- where the positions are bounded
  pub rows-bounded : ((worker : ℕ) → worker < crew_of query.flow → IsBounded (role_in query worker) (positions worker)) → AreHeldByRows d
  unfolding is_held row_held_at Rattle.amber_worker.specs.AtPosition.placement_of
  rows-bounded bounded worker held =
      elim (cases_lt worker (crew_of query.flow)) [
        | inl inside ↦
            let shows = (stand.work.at.at_positions.each worker inside).shows in
            let p = positions worker in
            let w = worker_state_at d.workers worker in
            let here : p.restraint.held ≡ true = sym (ap (λ (r : Restraint). r.held) shows.restraint) ∙ held in
            ap (λ b. is_some (if b then first_of w.pending else None)) held
            ∙ ap (λ xs. is_some (first_of xs)) shows.pending
            ∙ behind-some (length p.outcomes) _ ((bounded worker inside).held here)
        | inr past ↦
            absurd (false≢true (sym (ap (λ (w : WorkerState). w.restraint.held)
            (get_or-eq_default d.workers no_worker_state (let all = stand-all query start d positions stand in omega arith))) ∙ held))
      ]

-- at rest
pub rows-rest : (e : HomeState) (live : LiveState) → IsAtRest e live → (legal : IsLegal (query_of e) e.log) → AreHeldByRows live.dataflow
rows-rest e live rest legal =
    rows-bounded (query_of e) (rest_state e) live.dataflow (position_at (rest_state e).positions) rest.at
    (subst (λ (s : State). AreBounded (query_of e) s.positions) (sym (first-rest e live rest legal)) (legal-bounded (query_of e) e.log legal))

-- within a leg
pub rows-within : (to_end : Bool) (e : HomeState) (d : DataflowState) (arms : List Asked) → IsWithinLeg to_end e d arms → IsLegal (query_of e) e.log → AreHeldByRows d
rows-within to_end e d arms leg legal =
    let bounded = bounded-within to_end e d arms leg legal in
    rows-bounded (query_of e) _ d leg.positions leg.at
    (λ worker inside. subst (IsBounded (role_in (query_of e) worker)) (stand-position (query_of e) _ d leg.positions leg.at worker inside) (bounded worker inside))
