-- A leg to the end: nobody is held and nothing is armed, so no stop stands before all have finished.
use Rattle.std.proofs.Common.{◌≡◌, ◌≢◌, refl, sym, ap, subst, ◌∙◌, ℕ, ◌-◌, ◌<◌, List, [], ◌∷◌, None, true, false}
use Rattle.std.specs.List.{flat_map}
use Rattle.std.proofs.lemmas.Bool.{false≢true, true_from_ne_false}
use Rattle.amber_rows.specs.Topology.{crew_of, first_worker_of, op_of}
use Rattle.amber_rows.specs.Lists.{numbers_below}
use Rattle.amber_rows.specs.declared.flow.Operator.{Operator}
use Rattle.amber_rows.specs.declared.value.Value.{Value}
use Rattle.amber_log.specs.declared.entry.Entry.{Entry}
use Rattle.amber_log.specs.declared.entry.Entry.TheVariants as entry
use Rattle.amber_lines.specs.Moving.{orders_in}
use Rattle.amber_meaning.specs.declared.view.Stop.{Stop}
use Rattle.amber_meaning.specs.Legal.{Query, entries_of, leg_start, role_in}
use Rattle.amber_meaning.specs.Position.{Position, Restraint, pending_rows}
use Rattle.amber_meaning.specs.Rules.{Leads, Moves, Orders, assigned, first_is_watched}
use Rattle.amber_meaning.specs.State.{Arms, State, arms_at, begin_last_leg, have_finished, no_arms, position_at, without_arms}
use Rattle.amber_meaning.specs.Stops.{held_stop, op_numbers}
use Rattle.amber_meaning.specs.Task.{Role}
use Rattle.amber_meaning.proofs.Numbers.{among, among-first, among-more, below-in}
use Rattle.amber_dataflow.specs.AtWork.{worker_state_at}
use Rattle.amber_dataflow.specs.Dataflow.{DataflowState, StandAt, have_all_finished, is_held, leg_parts, rows_emitted}
use Rattle.amber_home.specs.Asked.{Asked}
use Rattle.amber_home.specs.HomeState.{HomeState, is_open, query_of, rest_state, runs_to_end, state_of, stops_of_home}
use Rattle.amber_home.specs.Kept.{IsHome, IsWithinLeg, LiveState}
use Rattle.amber_home.specs.Leg.{count_at, counts_of, held_of, pause_at, pauses_of, stop_of_count, stop_of_pause, stop_of_worker, stops_by}
use Rattle.amber_home.specs.declared.phase.Counts.{Counts}
use Rattle.amber_home.specs.declared.phase.Phase.{Phase}
use Rattle.amber_home.specs.declared.phase.Phase.TheVariants as phase
use Rattle.amber_home.proofs.Legs.{IsUnarmed, unarmed-start}
use Rattle.amber_home.proofs.Opened.{position-start}
use Rattle.amber_home.proofs.Places.{at-map}
use Rattle.amber_home.proofs.Reached.{leads-at, restraint-at}
use Rattle.amber_home.proofs.Saying.{finished-state, in_phase, stands-somewhere, stops-open}

-- ---- nobody is held

-- no row is watched where no condition is in force
watched-never : (rows : List (List Value)) → first_is_watched None rows ≡ false
watched-never [] = refl
watched-never (row ∷ rows) = refl

loose-moves : (role : Role) (orders : Orders) (p q : Position) (one : Entry) → orders.when ≡ None → p.restraint.held ≡ false → Moves (assigned role orders) p one q → q.restraint.held ≡ false
loose-moves role orders p q (entry.Take from number) unwatched none moves = ap (λ m. m.restraint.held) moves.2 ∙ none
loose-moves role orders p q (entry.Go rows outs) unwatched none moves = ap (λ m. m.restraint.held) moves.2 ∙ none
loose-moves role orders p q (entry.Grant n) unwatched none moves = ap (λ m. m.restraint.held) moves.2 ∙ none
loose-moves role orders p q (entry.Back n) unwatched none moves = ap (λ m. m.restraint.held) moves.2 ∙ none
loose-moves role orders p q entry.Pause unwatched none moves = ap (λ m. m.restraint.held) moves.2 ∙ none
loose-moves role orders p q entry.Resume unwatched none moves = ap (λ m. m.restraint.held) moves.2 ∙ none
loose-moves role orders p q entry.Hold unwatched none moves =
    absurd (false≢true (sym (ap (λ when. first_is_watched when (pending_rows role p)) unwatched ∙ watched-never (pending_rows role p)) ∙ moves.1.watched))
loose-moves role orders p q entry.Finish unwatched none moves = ap (λ m. m.restraint.held) moves.2 ∙ none

-- where no condition is in force, who was not held is not
loose-stays : (role : Role) (orders : Orders) (p q : Position) (entries : List Entry) → orders.when ≡ None → p.restraint.held ≡ false → Leads (assigned role orders) p entries q → q.restraint.held ≡ false
unfolding Leads
loose-stays role orders p q [] unwatched none leads = ap (λ m. m.restraint.held) (sym leads) ∙ none
loose-stays role orders p q (one ∷ more) unwatched none leads =
    loose-stays role orders leads.0 q more unwatched (loose-moves role orders p leads.0 one unwatched none leads.1) leads.2

-- so nobody is where nobody was when the leg began
module _ (query : Query) (start : State) (d : DataflowState) (positions : ℕ → Position) (stand : StandAt query start d positions) where
  loose-reached : ((op : ℕ) → (arms_at start op).when ≡ None) → ((worker : ℕ) → worker < crew_of query.flow → (position_at start.positions worker).restraint.held ≡ false)
      → (worker : ℕ) → worker < crew_of query.flow → is_held d worker ≡ false
  unfolding is_held
  loose-reached unwatched none worker inside =
      ap (λ (r : Restraint). r.held) (restraint-at query start d positions stand worker inside)
      ∙ loose-stays (role_in query worker) (orders_in query start worker) (position_at start.positions worker) (positions worker) (entries_of (leg_parts d) worker)
      (unwatched (op_of query.flow worker)) (none worker inside) (leads-at query start d positions stand worker inside)

-- to the end no condition is in force
unwatched-start : (rest : State) (op : ℕ) → (arms_at (leg_start true rest) op).when ≡ None
unfolding begin_last_leg
unwatched-start rest op = ap (λ (a : Arms). a.when) (at-map without_arms rest.arms op no_arms no_arms refl)

loose-here : (e : HomeState) (d : DataflowState) (arms : List Asked) → IsWithinLeg true e d arms → (worker : ℕ) → worker < crew_of d.flow → is_held d worker ≡ false
loose-here e d arms leg worker inside =
    loose-reached (query_of e) (leg_start true (rest_state e)) d leg.positions leg.at (unwatched-start (rest_state e))
    (λ k within. ap (λ (p : Position). p.restraint.held) (position-start true (rest_state e) k))
    worker (subst (λ (f : List Operator). worker < crew_of f) leg.at.flow inside)

-- ---- no stop

-- where none of these has a stop
no-stops-among : (f : ℕ → List Stop) (xs : List ℕ) → ((x : ℕ) → among x xs ≡ true → f x ≡ []) → flat_map f xs ≡ []
no-stops-among f [] none = refl
no-stops-among f (x ∷ xs) none = rw (none x (among-first x xs), no-stops-among f xs (λ y known. none y (among-more y x xs known))) refl

module _ (arms : List Asked) (d : DataflowState) where
  -- where nothing is armed there is no stop of a pause
  pauses-none : ((op : ℕ) → IsUnarmed arms op) → pauses_of arms d ≡ []
  pauses-none unarmed =
      no-stops-among (λ op. stop_of_pause op (pause_at arms op) (rows_emitted d op)) (op_numbers d.flow)
      (λ op known. ap (λ pause. stop_of_pause op pause (rows_emitted d op)) (unarmed op).0)

  -- nor of a count
  counts-none : ((op : ℕ) → IsUnarmed arms op) → counts_of arms d ≡ []
  counts-none unarmed =
      no-stops-among (λ op. stop_of_count op (count_at arms op) (rows_emitted d op)) (op_numbers d.flow)
      (λ op known. ap (λ count. stop_of_count op count (rows_emitted d op)) (unarmed op).1)

  -- where nobody is held there is none of a worker
  held-none : ((worker : ℕ) → worker < crew_of d.flow → is_held d worker ≡ false) → held_of d ≡ []
  unfolding held_of is_held
  held-none loose =
      no-stops-among (stop_of_worker d) (numbers_below (crew_of d.flow))
      (λ worker known.
      ap (λ b. held_stop (op_of d.flow worker) (worker - first_worker_of d.flow (op_of d.flow worker)) b (worker_state_at d.workers worker).pending)
      (loose worker (below-in (crew_of d.flow) worker known)))

  -- and none at all where somebody has not finished
  stops-none : ((op : ℕ) → IsUnarmed arms op) → ((worker : ℕ) → worker < crew_of d.flow → is_held d worker ≡ false) → have_all_finished d ≡ false → stops_by arms d ≡ []
  stops-none unarmed loose unfinished = rw (held-none loose, counts-none unarmed, pauses-none unarmed, unfinished) refl

-- ---- of a home

module _ (e : HomeState) (live : LiveState) (counts : Counts) (home : IsHome (record e { phase = phase.Open true counts }) live) where
  -- in a leg to the end no stop stands before all have finished
  none-before : have_all_finished live.dataflow ≡ false → stops_by live.arms live.dataflow ≡ []
  none-before is =
      let here : HomeState = record e { phase = phase.Open true counts } in
      let leg = home.stands.0 in
      stops-none live.arms live.dataflow (unarmed-start (query_of e) (rest_state here) live.arms leg.in_force) (loose-here here live.dataflow live.arms leg) is

  ended : stops_of_home (in_phase e live (phase.Open true counts)) ≢ [] → have_all_finished live.dataflow ≡ true
  ended some =
      true_from_ne_false (have_all_finished live.dataflow)
      (λ is. some (sym (stops-open e live (phase.Open true counts) home refl (stops_by live.arms live.dataflow) refl) ∙ none-before is))

-- so where one stands all have
pub ends-home : (e : HomeState) (live : LiveState) (now : Phase) → IsHome (record e { phase = now }) live → is_open now ≡ true → runs_to_end now ≡ true
    → stops_of_home (in_phase e live now) ≢ [] → have_finished (state_of (in_phase e live now)) ≡ true
ends-home e live phase.Resting home within last some = absurd (false≢true within)
ends-home e live phase.Over home within last some = absurd (false≢true within)
ends-home e live (phase.Lent to_end) home within last some = absurd (false≢true within)
ends-home e live (phase.Unsettled to_end) home within last some = absurd (false≢true within)
ends-home e live (phase.Redoing to_end empty) home within last some = absurd (false≢true within)
ends-home e live phase.Spent home within last some = absurd (false≢true within)
ends-home e live (phase.Open false counts) home within last some = absurd (false≢true last)
ends-home e live (phase.Open true counts) home within last some =
    let now : Phase = phase.Open true counts in
    sym (finished-state (query_of e) (state_of (in_phase e live now)) live.dataflow live.arms (stands-somewhere e live now home refl)) ∙ ended e live counts home some
