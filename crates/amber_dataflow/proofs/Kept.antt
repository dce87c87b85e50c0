-- What the calls of all workers keep, as the code has it: the workers stand in a slice of a `Vec`, which comes back.
use Rattle.std.proofs.Common.{◌≡◌, ◌≢◌, ◌⊎◌, inl, inr, refl, sym, ap, subst, ◌∙◌, ℕ, zero, suc, ◌+◌, ◌<◌, ◌≤◌, ◌^◌, eqb, sum_by, All, List, [], ◌∷◌, ◌++◌, length, map, take, drop, Bool, true, false, if◌then◌else◌, Result, Ok, Err, None, Option, unwrap_or, append-nil, arith}
use Rattle.std.specs.Result.{IfOk}
use Rattle.std.proofs.lemmas.Bool.{eq-eqb, ne_eqb}
use Rattle.std.proofs.lemmas.List.{drop_all, length-map, map-append, take_all}
use Rattle.std.proofs.lemmas.List.Sums.{sum_by-append}
use Rattle.amber_rows.specs.Topology.{crew_of, op_of, workers_of}
use Rattle.amber_rows.specs.Lists.{numbers_below}
use Rattle.amber_rows.specs.declared.flow.Operator.{Operator}
use Rattle.amber_rows.specs.declared.value.Value.{Value}
use Rattle.amber_rows.specs.declared.cond.Cond.{Cond}
use Rattle.amber_lines.specs.Moving.{orders_in}
use Rattle.amber_meaning.specs.declared.answer.Answer.{Answer}
use Rattle.amber_meaning.specs.declared.view.WorkerView.{WorkerView}
use Rattle.amber_meaning.specs.Legal.{Query, query_over, role_in}
use Rattle.amber_meaning.specs.Position.{Position, origin, steps_of}
use Rattle.amber_meaning.specs.State.{Arms, State, arms_at, let_go, no_arms, orders_of, position_at, start_of, steps_in}
use Rattle.amber_meaning.specs.Views.{inspected_of, view_of}
use Rattle.amber_meaning.specs.Stops.{op_numbers}
use Rattle.amber_meaning.proofs.Crews.{op-within, worker-known}
use Rattle.amber_meaning.proofs.Numbers.{among, among-first, among-more}
use Rattle.amber_worker.specs.AtPosition.{placement_of}
use Rattle.amber_board.specs.declared.types.Board.{Board}
use Rattle.amber_worker.specs.Counting.{IsBoardOf}
use Rattle.amber_worker.specs.WorkerState.{IsUnrestrained, WorkerState, is_armed, needs_unit, steps_made}
use Rattle.amber_dataflow.specs.Answers.{IsGathered, ShowAll, ShowWorkers}
use Rattle.amber_dataflow.specs.AtWork.{AreAtWork, GoesOn, HaveFinished, IsCrewUnder, IsHeldAt, MakesStepAt, MakesTurnsAt, state_reached, worker_state_at}
use Rattle.amber_dataflow.specs.Dataflow.{AreAllThere, AreFree, DataflowState, HaveDoneNothing, IsAnswerOf, IsDataflow, IsFirst, IsHeldNow, MadeStep, MovesUnder, ShowAt, StandsUnder, TurnsAt, leg_begun, handed_out, has_finished, has_room, is_armed_at, is_held, is_paused, is_short, have_all_finished, journal_of, rows_emitted, seat_of, step_count, turned_of, units_counted, constant_put, when_put, worker_begun, worker_set, worker_watching}
use Rattle.amber_dataflow.specs.Parts.{without_journal}
use Rattle.amber_dataflow.proofs.Answered.{at-work-show, some-crew}
use Rattle.amber_dataflow.proofs.Crews.{at-each}
use Rattle.amber_dataflow.proofs.Emitted.{crew-few, others-emitted, own-emitted}
use Rattle.amber_dataflow.proofs.Numbered.{nth-numbers}
use Rattle.amber_dataflow.proofs.Reached.{listed-at}
use Rattle.amber_dataflow.proofs.Said.{all-have}
use Rattle.amber_dataflow.proofs.Split.{read-at}
use Rattle.amber_dataflow.proofs.Standing.{agree-same, begun_orders, begun-steps, handed_out-steps, set-steps, stand-begun, stand-handed_out, stand-set, stand-watched, watched-steps}
use Rattle.amber_dataflow.proofs.Steps.{steps-none, sum-member}
use Rattle.amber_dataflow.proofs.Units.{others-units, own-more, own-units}
use Rattle.amber_dataflow.proofs.Within.{position-here, steps-reached}

-- a slice of a `Vec` that comes back as long as it was
pub written-back : (old new : List WorkerState) (n : ℕ) → length new ≡ length old → n ≡ length old → take n (new ++ drop (length new) old) ≡ new
written-back old new n same is =
    let none : drop (length new) old ≡ [] = drop_all (length new) old (omega arith) in
    ap (λ xs. take n (new ++ xs)) none ∙ ap (take n) (append-nil new) ∙ take_all n new (omega arith)

-- of those that are lent none has done anything
pub nothing-lent : (d : DataflowState) (lent : List WorkerState) → lent ≡ d.workers → HaveDoneNothing d → All (λ w. w.journal ≡ []) lent
unfolding journal_of
nothing-lent d lent is none = λ k e less. ap (λ (w : WorkerState). w.journal) (read-at lent k e less) ∙ ap (λ crew. (worker_state_at crew k).journal) is ∙ none k

-- none is held
pub loose-lent : (d : DataflowState) (lent : List WorkerState) → lent ≡ d.workers → ((worker : ℕ) → is_held d worker ≡ false) → All (λ w. w.restraint.held ≡ false) lent
unfolding is_held
loose-lent d lent is none = λ k e less. ap (λ (w : WorkerState). w.restraint.held) (read-at lent k e less) ∙ ap (λ crew. (worker_state_at crew k).restraint.held) is ∙ none k

module _ (d : DataflowState) (keeps : IsDataflow d) where
  -- ---- where workers are left

  -- as they are lent
  pub crew-lent : (lent : List WorkerState) (worker : ℕ) → lent ≡ d.workers → StandsUnder (is_armed_at d worker) d worker
      → IsCrewUnder (is_armed (worker_state_at lent worker)) worker lent
  unfolding seat_of
  crew-lent lent worker is under =
      subst (λ crew. IsCrewUnder (is_armed (worker_state_at crew worker)) worker crew) (sym is) (under.0, under.1, under.2, under.3.work, under.4)

  -- the board of one of them
  pub own-lent : (lent : List WorkerState) (worker : ℕ) (board : Option Board) → lent ≡ d.workers → IsBoardOf board (seat_of d worker)
      → IsBoardOf board (worker_state_at lent worker).seat
  unfolding seat_of
  own-lent lent worker board is own = subst (λ crew. IsBoardOf board (worker_state_at crew worker).seat) (sym is) own

  -- one of them is not short of units
  pub fed-lent : (lent : List WorkerState) (worker : ℕ) → lent ≡ d.workers → is_short d worker ≡ false → needs_unit (worker_state_at lent worker) ≡ false
  unfolding is_short
  fed-lent lent worker is fed = ap (λ crew. needs_unit (worker_state_at crew worker)) is ∙ fed

  -- each has made few steps, with those to come
  pub few-lent : (lent : List WorkerState) (worker more : ℕ) → lent ≡ d.workers → step_count d + more ≤ 2 ^ 40 → steps_made (worker_state_at lent worker) + more ≤ 2 ^ 40
  unfolding step_count
  few-lent lent worker more is few =
      let one = sum-member d.workers worker in
      subst (λ crew. steps_made (worker_state_at crew worker) + more ≤ 2 ^ 40) (sym is) (omega arith)

  -- the first that has not finished, as it was found
  pub first-there : (lent : List WorkerState) (worker : ℕ) → lent ≡ d.workers → AreAllThere d → worker < length lent → HaveFinished worker lent
      → (worker_state_at lent worker).finished ≡ false → IsFirst d worker
  unfolding has_finished
  first-there lent worker is there inside first unfinished = record {
    there = rw (← there, ← is) inside;
    first = subst (HaveFinished worker) is first;
    unfinished = ap (λ crew. (worker_state_at crew worker).finished) (sym is) ∙ unfinished;
  }

  -- one of those that are lent is free, where all are and it has not finished
  pub free-lent : (lent : List WorkerState) (worker : ℕ) → lent ≡ d.workers → AreFree d → (worker_state_at lent worker).finished ≡ false → IsUnrestrained (worker_state_at lent worker)
  unfolding is_held is_paused
  free-lent lent worker is free unfinished = record {
    unfinished = unfinished;
    running = ap (λ crew. (worker_state_at crew worker).restraint.paused) is ∙ free.running worker;
    loose = ap (λ crew. (worker_state_at crew worker).restraint.held) is ∙ free.loose worker;
  }

  -- ---- none is left

  pub none-left : (workers : List WorkerState) → workers ≡ [] → IsDataflow (record d { workers = workers })
  unfolding step_count
  none-left workers none = rw none (record { flow = keeps.flow; few = rw steps-none (omega arith); stand = λ there. let some = some-crew d.flow keeps.flow in absurd (omega (arith, there)) })

  -- ---- turns

  -- one of them has made turns
  turned : (now : List WorkerState) (worker most : ℕ) → length now ≡ crew_of d.flow → MakesTurnsAt most d.workers now worker → TurnsAt most d (record d { workers = now }) worker
  unfolding GoesOn MovesUnder journal_of has_finished has_room rows_emitted seat_of turned_of units_counted
  turned now worker most there turns = record {
    flow = refl;
    there = there;
    on = λ query start positions stand under.
        let next = turns.on query start positions stand.work under in
        (next.0, record { flow = stand.flow; work = next.1 }, next.2);
    writes = turns.writes;
    others = λ other apart. record {
      finished = ap (λ (w : WorkerState). w.finished) (turns.only other apart);
      journal = ap (λ (w : WorkerState). w.journal) (turns.only other apart);
      seat = ap (λ (w : WorkerState). w.seat) (turns.only other apart);
      room = ap (λ (w : WorkerState). w.reserved) (turns.only other apart);
    };
    rows = own-emitted d.workers now worker most turns.only turns.rows d.flow (op_of d.flow worker);
    more = own-more d.workers now worker turns.only turns.more (workers_of d.flow (op_of d.flow worker));
    emitted = λ op apart. others-emitted d.flow d.workers now worker op turns.only apart;
    seat = turns.seat;
    room = turns.reserved;
    units = λ armed. own-units d.flow d.workers now worker turns.only (turns.mine armed);
    counted = λ op apart. others-units d.flow d.workers now worker op turns.only apart;
    undriven = λ other. at-each (λ k. (worker_state_at now k).turned ≡ (worker_state_at d.workers k).turned) worker turns.undriven
        (λ k apart. ap (λ (w : WorkerState). w.turned) (turns.only k apart)) other;
  }

  -- as they were lent and come back
  module _ (lent now : List WorkerState) (n worker made : ℕ) (is : lent ≡ d.workers) (long : length now ≡ length lent) (size : n ≡ length d.workers)
      (there : AreAllThere d) (turns : MakesTurnsAt made lent now worker) where
    abbrev back : DataflowState
    back = record d { workers = take n (now ++ drop (length now) d.workers) }

    back-is : record d { workers = now } ≡ back
    back-is = ap (λ crew. record d { workers = crew }) (sym (written-back d.workers now n (long ∙ ap length is) size))

    -- one has made turns
    pub turned-back : TurnsAt made d back worker
    turned-back = subst (λ e. TurnsAt made d e worker) back-is
        (turned now worker made (long ∙ ap length is ∙ there) (subst (λ crew. MakesTurnsAt made crew now worker) is turns))

    -- a step stands in its journal, or that it is held
    pub does-back : MakesStepAt lent now worker ⊎ IsHeldAt lent now worker → MadeStep d back worker ⊎ IsHeldNow d back worker
    unfolding journal_of step_count is_held
    does-back does = subst (λ e. MadeStep d e worker ⊎ IsHeldNow d e worker) back-is
        (by (subst (λ crew. MakesStepAt crew now worker ⊎ IsHeldAt crew now worker) is does))
      where
        by : MakesStepAt d.workers now worker ⊎ IsHeldAt d.workers now worker
            → MadeStep d (record d { workers = now }) worker ⊎ IsHeldNow d (record d { workers = now }) worker
        by (inl step) = inl (record { one = step.one; writes = step.writes })
        by (inr held) = inr (record { none = held.none; held = held.held; writes = held.writes })

    -- the steps are then no more than one more
    count-most : MakesStepAt lent now worker ⊎ IsHeldAt lent now worker → step_count back ≤ step_count d + 1
    unfolding step_count
    count-most does = subst (λ e. step_count e ≤ step_count d + 1) back-is (by (subst (λ crew. MakesStepAt crew now worker ⊎ IsHeldAt crew now worker) is does))
      where
        by : MakesStepAt d.workers now worker ⊎ IsHeldAt d.workers now worker → step_count (record d { workers = now }) ≤ step_count d + 1
        by (inl step) = let one = step.one in omega arith
        by (inr held) = let none = held.none in omega arith

    -- what is known of all workers still is
    pub kept-stepped : StandsUnder (is_armed_at d worker) d worker → MakesStepAt lent now worker ⊎ IsHeldAt lent now worker → step_count d < 2 ^ 40 → IsDataflow back
    unfolding MovesUnder
    kept-stepped stand does few =
        let next = turned-back.on stand.0 stand.1 stand.2 stand.3 stand.4 in
        record {
          flow = keeps.flow;
          few = let most = count-most does in omega arith;
          stand = λ has. (stand.0, stand.1, next.0, next.1);
        }

    -- the board is still that of its seat
    pub own-back : (board : Option Board) → IsBoardOf board (worker_state_at now worker).seat → IsBoardOf board (seat_of back worker)
    unfolding seat_of
    own-back board own = subst (λ (e : DataflowState). IsBoardOf board (worker_state_at e.workers worker).seat) back-is own

  -- ---- a leg begins, and journals are handed out

  -- what is in force when it does
  begun_arms : Bool → Arms → Arms
  begun_arms true arms = record arms { when = None; count = None }
  begun_arms false arms = arms

  begun-arms-orders : (to_end : Bool) (arms : Arms) → orders_of (begun_arms to_end arms) ≡ begun_orders to_end (orders_of arms)
  unfolding begun_arms
  begun-arms-orders true arms = refl
  begun-arms-orders false arms = refl

  pub kept-begun : (to_end : Bool) → IsDataflow (leg_begun to_end d)
  kept-begun to_end = record {
    flow = keeps.flow;
    few = rw (begun-steps to_end d) keeps.few;
    stand = λ there.
        let stand = keeps.stand (sym (length-map d.workers (worker_begun to_end)) ∙ there) in
        let later : ℕ → Position = λ worker. let_go (stand.2 worker) in
        let arms : ℕ → Arms = λ op. begun_arms to_end (arms_at stand.1 op) in
        let now : State = record { arms = map arms (op_numbers stand.0.flow); positions = map later (numbers_below (crew_of stand.0.flow)) } in (
          stand.0,
          now,
          later,
          stand-begun stand.0 stand.1 d stand.2 stand.3 now to_end
              (λ worker inside.
              let placed = op-within stand.0.flow worker inside in
              ap (λ found. orders_of (unwrap_or found no_arms)) (nth-numbers arms stand.0.flow (op_of stand.0.flow worker) placed.0 placed.1)
              ∙ begun-arms-orders to_end (arms_at stand.1 (op_of stand.0.flow worker)))
              (λ worker inside. listed-at later (crew_of stand.0.flow) worker inside),
        );
  }

  pub kept-handed_out : IsDataflow (handed_out d)
  kept-handed_out = record {
    flow = keeps.flow;
    few = rw (handed_out-steps d) keeps.few;
    stand = λ there.
        let stand = keeps.stand (sym (length-map d.workers without_journal) ∙ there) in
        let now = state_reached stand.0 stand.1 stand.2 in (
          stand.0,
          now,
          stand.2,
          stand-handed_out stand.0 stand.1 d stand.2 stand.3 now (λ worker inside. record { constants = refl; when = refl })
              (λ worker inside. listed-at stand.2 (crew_of stand.0.flow) worker inside),
        );
  }

-- ---- another constant, or another condition

-- a state in which what is in force at an operator was changed
module _ (query : Query) (start : State) (positions : ℕ → Position) (op : ℕ) (change : Arms → Arms) where
  changed_arms : ℕ → Arms
  changed_arms k = if eqb k op then change (arms_at start k) else arms_at start k

  abbrev changed_state : State
  changed_state = record { arms = map changed_arms (op_numbers query.flow); positions = map positions (numbers_below (crew_of query.flow)) }

  arms-changed : (worker : ℕ) → worker < crew_of query.flow → arms_at changed_state (op_of query.flow worker) ≡ changed_arms (op_of query.flow worker)
  arms-changed worker inside =
      let placed = op-within query.flow worker inside in
      ap (λ found. unwrap_or found no_arms) (nth-numbers changed_arms query.flow (op_of query.flow worker) placed.0 placed.1)

  orders-here : (worker : ℕ) → worker < crew_of query.flow → op_of query.flow worker ≡ op
      → orders_in query changed_state worker ≡ orders_of (change (arms_at start (op_of query.flow worker)))
  unfolding changed_arms
  orders-here worker inside same =
      ap orders_of (arms-changed worker inside
      ∙ ap (λ b. if b then change (arms_at start (op_of query.flow worker)) else arms_at start (op_of query.flow worker)) (eq-eqb (op_of query.flow worker) op same))

  orders-elsewhere : (worker : ℕ) → worker < crew_of query.flow → op_of query.flow worker ≢ op → orders_in query changed_state worker ≡ orders_in query start worker
  unfolding changed_arms
  orders-elsewhere worker inside other =
      ap orders_of (arms-changed worker inside
      ∙ ap (λ b. if b then change (arms_at start (op_of query.flow worker)) else arms_at start (op_of query.flow worker)) (ne_eqb (op_of query.flow worker) op other))

pub kept-set : (d : DataflowState) (op : ℕ) (value : Value) → IsDataflow d → HaveDoneNothing d → IsDataflow (constant_put op value d)
kept-set d op value keeps none = record {
  flow = keeps.flow;
  few = rw (set-steps op value d) keeps.few;
  stand = λ there.
      let stand = keeps.stand (sym (length-map d.workers (worker_set op value)) ∙ there) in
      let change : Arms → Arms = λ arms. record arms { constants = value ∷ [] } in
      let now = changed_state stand.0 stand.1 stand.2 op change in (
        stand.0,
        now,
        stand.2,
        stand-set stand.0 stand.1 d stand.2 stand.3 now op value none
            (λ worker inside. listed-at stand.2 (crew_of stand.0.flow) worker inside)
            (orders-here stand.0 stand.1 stand.2 op change) (orders-elsewhere stand.0 stand.1 stand.2 op change),
      );
}

pub kept-watched : (d : DataflowState) (op : ℕ) (when : Option Cond) → IsDataflow d → HaveDoneNothing d → IsDataflow (when_put op when d)
kept-watched d op when keeps none = record {
  flow = keeps.flow;
  few = rw (watched-steps op when d) keeps.few;
  stand = λ there.
      let stand = keeps.stand (sym (length-map d.workers (worker_watching op when)) ∙ there) in
      let change : Arms → Arms = λ arms. record arms { when = when } in
      let now = changed_state stand.0 stand.1 stand.2 op change in (
        stand.0,
        now,
        stand.2,
        stand-watched stand.0 stand.1 d stand.2 stand.3 now op when none
            (λ worker inside. listed-at stand.2 (crew_of stand.0.flow) worker inside)
            (λ worker inside same. agree-same (orders_in stand.0 now worker) (record (orders_in stand.0 stand.1 worker) { when = when }) (orders-here stand.0 stand.1 stand.2 op change worker inside same))
            (λ worker inside other. agree-same (orders_in stand.0 now worker) (orders_in stand.0 stand.1 worker) (orders-elsewhere stand.0 stand.1 stand.2 op change worker inside other)),
      );
}

-- ---- a run that has not begun

steps-origin : (n : ℕ) → sum_by steps_of (map (λ _. origin) (numbers_below n)) ≡ 0
unfolding numbers_below
steps-origin zero = refl
steps-origin (suc n) =
    ap (sum_by steps_of) (map-append (λ _. origin) (numbers_below n) (n ∷ [])) ∙ sum_by-append steps_of (map (λ _. origin) (numbers_below n)) (origin ∷ [])
    ∙ ap (λ m. m + 0) (steps-origin n)

pub kept-new : (flow : List Operator) (files : List (List ℕ)) (batch : ℕ) (workers : List WorkerState) → ((most : ℕ) → AreAtWork (query_over flow files batch most) (start_of flow) workers (λ _. origin))
    → IsDataflow (record { flow = flow; workers = workers })
unfolding step_count steps_in
kept-new flow files batch workers work =
    let query = query_over flow files batch 0 in
    record {
      flow = (work 0).at.flow;
      few = rw (sym (steps-reached query (start_of flow) workers (λ _. origin) (work 0)) ∙ steps-origin (crew_of flow)) (omega arith);
      stand = λ there. (query, start_of flow, (λ _. origin), record { flow = refl; work = work 0 });
    }

-- ---- what they give

pub few-workers : (d : DataflowState) → AreAllThere d → IsDataflow d → length d.workers < 2 ^ 32
few-workers d there keeps = let few = crew-few d.flow keeps.flow in omega (arith, there)

pub answers : {E : Type 0} (flow : List Operator) (crew lent : List WorkerState) → lent ≡ crew → (result : Result Answer E) → IfOk result (IsGathered flow lent)
    → IfOk result (IsAnswerOf (record { flow = flow; workers = crew }))
unfolding IsGathered IsAnswerOf have_all_finished
answers flow crew lent is (Ok answer) gathered = λ query start positions stand finished.
    gathered query start positions (sym stand.flow) (subst (λ workers. AreAtWork query start workers positions) (sym is) stand.work)
    (subst (λ workers. HaveFinished (length workers) workers) (sym is) (all-have crew finished))
answers flow crew lent is (Err why) gathered = tt

-- ---- what they show

views-among : (f g : ℕ → WorkerView) (xs : List ℕ) → ((x : ℕ) → among x xs ≡ true → f x ≡ g x) → map f xs ≡ map g xs
views-among f g [] same = refl
views-among f g (x ∷ xs) same =
    ap (λ v. v ∷ map f xs) (same x (among-first x xs)) ∙ ap (λ l. g x ∷ l) (views-among f g xs (λ y known. same y (among-more y x xs known)))

pub shows : {E : Type 0} (flow : List Operator) (crew lent : List WorkerState) (op : ℕ) → lent ≡ crew → (result : Result (List WorkerView) E)
    → IfOk result (ShowWorkers lent (workers_of flow op)) → IfOk result (ShowAt (record { flow = flow; workers = crew }) op)
unfolding ShowWorkers ShowAt inspected_of placement_of
shows flow crew lent op is (Ok views) shown = λ query start positions stand.
    let work = stand.work in
    let state = state_reached query start positions in
    let f : ℕ → WorkerView = λ worker. view_of (role_in query worker) (positions worker) in
    let g : ℕ → WorkerView = λ worker. view_of (role_in query worker) (position_at state.positions worker) in
    shown query positions (subst (λ workers. ShowAll query workers positions) (sym is) (at-work-show query start crew positions work))
    ∙ ap (λ fl. map f (workers_of fl op)) stand.flow
    ∙ views-among f g (workers_of query.flow op) (λ worker known.
    ap (view_of (role_in query worker)) (sym (position-here query start crew positions work worker (worker-known query.flow op worker known))))
shows flow crew lent op is (Err why) shown = tt
