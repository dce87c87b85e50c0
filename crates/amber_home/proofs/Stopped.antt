-- The stops of the state that workers reached are those that they show.
use Rattle.std.proofs.Common.{◌≡◌, ◌≢◌, refl, sym, ap, ◌∙◌, ℕ, zero, suc, ◌-◌, ◌<◌, ◌≤◌, List, [], ◌∷◌, ◌++◌, length, Bool, true, false, Option, None, Some, is_some, unwrap_or, option_to_list, if◌then◌else◌, inl, inr, arith}
use Rattle.std.specs.List.{flat_map}
use Rattle.std.proofs.lemmas.Bool.{cases_lt, false≢true, or_cases}
use Rattle.amber_rows.specs.Topology.{crew_of, first_worker_of, op_of}
use Rattle.amber_rows.specs.Lists.{first_of, numbers_below}
use Rattle.amber_rows.specs.declared.flow.Operator.{Operator}
use Rattle.amber_rows.specs.declared.value.Value.{Value}
use Rattle.amber_meaning.specs.declared.view.Stop.{Stop}
use Rattle.amber_meaning.specs.declared.view.Stop.TheVariants as stop
use Rattle.amber_meaning.specs.Legal.{Query, role_in, stops_in}
use Rattle.amber_meaning.specs.Position.{Position, Restraint, pending_rows}
use Rattle.amber_meaning.specs.State.{Counting, State, arms_at, crew_at, emitted_by, position_at}
use Rattle.amber_meaning.specs.Stops.{count_stop, count_stops, end_stop, held_stop, held_stops, op_numbers, pause_stop, pause_stops, stops_of}
use Rattle.amber_meaning.proofs.Numbers.{among, among-first, among-more, among_step, below-in, in-below, in-row}
use Rattle.amber_dataflow.specs.AtWork.{state_reached, worker_state_at}
use Rattle.amber_dataflow.specs.Dataflow.{AreHeldByRows, DataflowState, StandAt, row_held_at, is_held, rows_emitted}
use Rattle.amber_dataflow.proofs.Standing.{stand-emitted, stand-finished, stand-position}
use Rattle.amber_home.specs.Asked.{Asked, IsCountOf, IsInForce, asked_at, is_reached, is_stopped_after, no_asked, stands_after}
use Rattle.amber_home.specs.Leg.{IsCut, count_at, counts_of, held_of, other_stops, pause_at, pauses_of, stop_at_end, stop_of_count, stop_of_pause, stop_of_worker, stops_by}
use Rattle.amber_boards.specs.declared.target.Target.{Target}
use Rattle.amber_home.proofs.Counted.{reached-test}
use Rattle.amber_home.proofs.Places.{nth-past}
use Rattle.amber_home.proofs.Reached.{in-force-reached}

-- ---- lists of stops

-- what gives the same stops of each of these gives the same of all
same-stops : (f g : ℕ → List Stop) (xs : List ℕ) → ((x : ℕ) → among x xs ≡ true → f x ≡ g x) → flat_map f xs ≡ flat_map g xs
same-stops f g [] same = refl
same-stops f g (x ∷ xs) same = rw (same x (among-first x xs), same-stops f g xs (λ y known. same y (among-more y x xs known))) refl

-- ---- all stops

module _ (query : Query) (start : State) (d : DataflowState) (positions : ℕ → Position) (stand : StandAt query start d positions) where
  abbrev reached : State
  reached = state_reached query start positions

  -- the stop of one worker
  held-is : (worker : ℕ) → worker < crew_of query.flow
      → held_stop (op_of query.flow worker) (worker - first_worker_of query.flow (op_of query.flow worker))
      (position_at reached.positions worker).restraint.held (pending_rows (role_in query worker) (position_at reached.positions worker))
      ≡ stop_of_worker d worker
  unfolding Rattle.amber_worker.specs.AtPosition.placement_of
  held-is worker inside =
      let shows = (stand.work.at.at_positions.each worker inside).shows in
      let op = op_of query.flow worker in
      ap (λ (p : Position). held_stop op (worker - first_worker_of query.flow op) p.restraint.held (pending_rows (role_in query worker) p))
      (stand-position query start d positions stand worker inside)
      ∙ ap (λ (r : Restraint). held_stop op (worker - first_worker_of query.flow op) r.held (pending_rows (role_in query worker) (positions worker))) (sym shows.restraint)
      ∙ ap (held_stop op (worker - first_worker_of query.flow op) (worker_state_at d.workers worker).restraint.held) (sym shows.pending)
      ∙ ap (λ (f : List Operator). held_stop (op_of f worker) (worker - first_worker_of f (op_of f worker))
      (worker_state_at d.workers worker).restraint.held (worker_state_at d.workers worker).pending) (sym stand.flow)

  -- of all of them
  pub held-are : held_stops query.flow (role_in query) reached ≡ held_of d
  unfolding held_stops held_of
  held-are =
      same-stops
      (λ worker. held_stop (op_of query.flow worker) (worker - first_worker_of query.flow (op_of query.flow worker))
      (position_at reached.positions worker).restraint.held (pending_rows (role_in query worker) (position_at reached.positions worker)))
      (stop_of_worker d) (numbers_below (crew_of query.flow)) (λ worker known. held-is worker (below-in (crew_of query.flow) worker known))
      ∙ ap (λ (f : List Operator). flat_map (stop_of_worker d) (numbers_below (crew_of f))) (sym stand.flow)

  -- the stop of the end
  ends-are : end_stop reached ≡ stop_at_end d
  ends-are = ap (λ b. if b then stop.End ∷ [] else []) (stand-finished query start d positions stand)

  module _ (arms : List Asked) (is : IsInForce query.flow reached arms) where
    -- the stop of one count
    count-is : (op : ℕ) (kept : Option Target) (count : Option Counting) → IsCountOf (crew_at query.flow reached op) kept count
        → count_stop query.flow reached op count ≡ stop_of_count op kept (emitted_by query.flow reached op)
    unfolding emitted_by
    count-is op None None one = refl
    count-is op None (Some counting) one = absurd one
    count-is op (Some kept) None one = absurd one
    count-is op (Some kept) (Some counting) one =
        rw (reached-test (crew_at query.flow reached op) kept counting one, one.target) refl

    -- of all of them
    counts-are : count_stops query.flow reached ≡ counts_of arms d
    unfolding count_stops
    counts-are =
        same-stops (λ op. count_stop query.flow reached op (arms_at reached op).count) (λ op. stop_of_count op (count_at arms op) (rows_emitted d op)) (op_numbers query.flow)
        (λ op known.
        count-is op (count_at arms op) (arms_at reached op).count (is.each op).count
        ∙ ap (stop_of_count op (count_at arms op)) (stand-emitted query start d positions stand op))
        ∙ ap (λ (f : List Operator). flat_map (λ op. stop_of_count op (count_at arms op) (rows_emitted d op)) (op_numbers f)) (sym stand.flow)

    -- the stop of one pause
    pause-is : (op : ℕ) (pause : Option ℕ) → pause_stop query.flow reached op pause ≡ stop_of_pause op pause (emitted_by query.flow reached op)
    pause-is op None = refl
    pause-is op (Some n) = refl

    -- of all of them
    pauses-are : pause_stops query.flow reached ≡ pauses_of arms d
    unfolding pause_stops
    pauses-are =
        same-stops (λ op. pause_stop query.flow reached op (arms_at reached op).pause) (λ op. stop_of_pause op (pause_at arms op) (rows_emitted d op)) (op_numbers query.flow)
        (λ op known.
        pause-is op (arms_at reached op).pause ∙ ap (stop_of_pause op (arms_at reached op).pause) (stand-emitted query start d positions stand op)
        ∙ ap (λ pause. stop_of_pause op pause (rows_emitted d op)) (sym (is.each op).pause))
        ∙ ap (λ (f : List Operator). flat_map (λ op. stop_of_pause op (pause_at arms op) (rows_emitted d op)) (op_numbers f)) (sym stand.flow)

  -- whatever was in force when the leg began
  pub stops-are : (arms : List Asked) → IsInForce query.flow start arms → stops_in query reached ≡ stops_by arms d
  unfolding stops_of
  stops-are arms is =
      let now = in-force-reached query start d positions stand arms is in
      rw (held-are, counts-are arms now, pauses-are arms now, ends-are) refl

-- ---- where there is a stop

-- two lists that are empty together
both-none : {A : Type 0} (xs ys : List A) → xs ++ ys ≡ [] → (xs ≡ []) × (ys ≡ [])
both-none [] ys e = (refl, e)
both-none (x ∷ xs) ys e = cc

-- one stop is some
some-stop : (f : ℕ → List Stop) (xs : List ℕ) (x : ℕ) → among x xs ≡ true → f x ≢ [] → flat_map f xs ≢ []
some-stop f [] x known some none = false≢true known
some-stop f (y ∷ ys) x known some none =
    let parts = both-none (f y) (flat_map f ys) none in
    among_step y x ys ⊥ known (λ same. some (ap f (sym same) ∙ parts.0)) (λ more. some-stop f ys x more some parts.1)

-- a stop that stands is one of an operator
stopped-within : (arms : List Asked) (op rows : ℕ) → is_stopped_after (asked_at arms op) rows ≡ true → (0 < op) × (op ≤ length arms)
stopped-within arms zero rows e = absurd (false≢true e)
stopped-within arms (suc i) rows e =
    elim (cases_lt i (length arms)) [
      | inl within ↦ (omega arith, omega arith)
      | inr beyond ↦ absurd (false≢true (sym (ap (λ found. is_stopped_after (unwrap_or found no_asked) rows) (nth-past arms (suc i) (omega arith))) ∙ e))
    ]

-- the number of an operator is among them
among-ops : (flow : List Operator) (op : ℕ) → 0 < op → op ≤ length flow → among op (op_numbers flow) ≡ true
among-ops flow zero some within = absurd (omega arith)
among-ops flow (suc i) some within = in-row suc (length flow) i (omega arith)

-- a pause that stands has a stop
pause-stands : (op : ℕ) (pause : Option ℕ) (rows : ℕ) → stands_after pause rows ≡ true → stop_of_pause op pause rows ≢ []
pause-stands op None rows e none = false≢true e
pause-stands op (Some n) rows e none = cons-nil (sym (ap (λ b. if b then stop.Pause op n rows ∷ [] else []) e) ∙ none)
  where
    cons-nil : stop.Pause op n rows ∷ [] ≡ [] → ⊥
    cons-nil e = cc

-- so has a count
count-stands : (op : ℕ) (count : Option Target) (rows : ℕ) → is_reached count rows ≡ true → stop_of_count op count rows ≢ []
count-stands op None rows e none = false≢true e
count-stands op (Some count) rows e none = cons-nil (sym (ap (λ b. if b then stop.Count op count.target ∷ [] else []) e) ∙ none)
  where
    cons-nil : stop.Count op count.target ∷ [] ≡ [] → ⊥
    cons-nil e = cc

-- the stop of a worker by the row before which it is held
by-row : (op place : ℕ) (held : Bool) (pending : List (List Value)) (row : Option (List Value)) → (if held then first_of pending else None) ≡ row
    → held_stop op place held pending ≡ flat_map (λ row. stop.Held op place row ∷ []) (option_to_list row)
by-row op place false pending row is = rw (← is) refl
by-row op place true [] row is = rw (← is) refl
by-row op place true (first ∷ pending) row is = rw (← is) refl

pub stop-of-none : (d : DataflowState) (worker : ℕ) → row_held_at d worker ≡ None → stop_of_worker d worker ≡ []
unfolding row_held_at
stop-of-none d worker is = by-row _ _ _ _ None is

pub stop-of-row : (d : DataflowState) (worker : ℕ) (row : List Value) → row_held_at d worker ≡ Some row
    → stop_of_worker d worker ≡ stop.Held (op_of d.flow worker) (worker - first_worker_of d.flow (op_of d.flow worker)) row ∷ []
unfolding row_held_at
stop-of-row d worker row is = by-row _ _ _ _ (Some row) is

-- who is held has a stop
held-stands : (op place : ℕ) (held : Bool) (pending : List (List Value)) → held ≡ true → is_some (if held then first_of pending else None) ≡ true → held_stop op place held pending ≢ []
held-stands op place false pending is some none = absurd (false≢true is)
held-stands op place true [] is some none = absurd (false≢true some)
held-stands op place true (row ∷ pending) is some none = cons-nil none
  where
    cons-nil : stop.Held op place row ∷ [] ≡ [] → ⊥
    cons-nil e = cc

worker-stands : (d : DataflowState) → AreHeldByRows d → (worker : ℕ) → is_held d worker ≡ true → stop_of_worker d worker ≢ []
unfolding is_held row_held_at
worker-stands d rows worker held =
    held-stands (op_of d.flow worker) (worker - first_worker_of d.flow (op_of d.flow worker)) (worker_state_at d.workers worker).restraint.held
    (worker_state_at d.workers worker).pending held (rows worker held)

held-some : (d : DataflowState) → AreHeldByRows d → (worker : ℕ) → worker < crew_of d.flow → is_held d worker ≡ true → held_of d ≢ []
unfolding held_of
held-some d rows worker inside held =
    some-stop (stop_of_worker d) (numbers_below (crew_of d.flow)) worker (in-below (crew_of d.flow) worker inside) (worker-stands d rows worker held)

-- where something stands at which a leg is cut, there is a stop
pub stops-some : (arms : List Asked) (d : DataflowState) → length arms ≡ length d.flow → AreHeldByRows d → IsCut arms d → stops_by arms d ≢ []
stops-some arms d long rows stands none = by stands
  where
    later : other_stops arms d ≡ []
    later = (both-none (held_of d) (other_stops arms d) none).1

    last : pauses_of arms d ++ stop_at_end d ≡ []
    last = (both-none (counts_of arms d) (pauses_of arms d ++ stop_at_end d) later).1

    end-nil : stop.End ∷ [] ≡ [] → ⊥
    end-nil e = cc

    by : IsCut arms d → ⊥
    by (inl held) = held-some d rows held.0 held.1 held.2 (both-none (held_of d) (other_stops arms d) none).0
    by (inr (inl stopped)) =
        let op = stopped.0 in
        let within = stopped-within arms op (rows_emitted d op) stopped.1 in
        let known = among-ops d.flow op within.0 (let most = within.1 in omega arith) in
        elim (or_cases (stands_after (pause_at arms op) (rows_emitted d op)) (is_reached (count_at arms op) (rows_emitted d op)) stopped.1) [
          | inl paused ↦
              some-stop (λ op. stop_of_pause op (pause_at arms op) (rows_emitted d op)) (op_numbers d.flow) op known
              (pause-stands op (pause_at arms op) (rows_emitted d op) paused) (both-none (pauses_of arms d) (stop_at_end d) last).0
          | inr counted ↦
              some-stop (λ op. stop_of_count op (count_at arms op) (rows_emitted d op)) (op_numbers d.flow) op known
              (count-stands op (count_at arms op) (rows_emitted d op) counted) (both-none (counts_of arms d) (pauses_of arms d ++ stop_at_end d) later).0
        ]
    by (inr (inr finished)) = end-nil (sym (ap (λ b. if b then stop.End ∷ [] else []) finished) ∙ (both-none (pauses_of arms d) (stop_at_end d) last).1)
