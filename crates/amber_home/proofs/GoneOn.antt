-- Workers that are lent and make turns, each by itself, are still those of the leg: so they may be taken back.
use Rattle.std.proofs.Common.{◌≡◌, ◌⊎◌, refl, sym, ap, subst, ◌∙◌, ℕ, suc, ◌+◌, ◌*◌, ◌<◌, ◌≤◌, List, [], ◌∷◌, length, true, Option, None, Some, is_some, option_map, inl, inr, add-one, arith}
use Rattle.std.proofs.lemmas.Bool.{cases_lt}
use Rattle.std.proofs.lemmas.List.Sums.{sum_by-cons}
use Rattle.amber_rows.specs.Topology.{crew_of, op_of, worker_count, workers_of}
use Rattle.amber_meaning.specs.Legal.{Query, leg_start}
use Rattle.amber_meaning.specs.Position.{Position}
use Rattle.amber_meaning.specs.State.{State, position_at}
use Rattle.amber_meaning.proofs.Crews.{worker-known, worker-op}
use Rattle.amber_meaning.proofs.Numbers.{among, among-first, among-more}
use Rattle.amber_worker.specs.AtPosition.{IsAtPosition, KeepsUnder, placement_of}
use Rattle.amber_worker.specs.Counting.{IsBoardOf, mine_in}
use Rattle.amber_worker.specs.Turning.{MakesTurns}
use Rattle.amber_worker.specs.WorkerState.{WorkerState, is_armed}
use Rattle.amber_dataflow.specs.AtWork as work
use Rattle.amber_dataflow.specs.AtWork.{AreJoinedAt, context_in, emitted_at, steps_by, units_at, worker_state_at}
use Rattle.amber_dataflow.specs.Dataflow.{DataflowState, has_room, rows_emitted, seat_of, units_counted}
use Rattle.amber_dataflow.proofs.Linked.{joined-still}
use Rattle.amber_dataflow.proofs.Steps.{steps-cons}
use Rattle.amber_boards.specs.Boards.{AreLedBy, CounterState, HasSeat, IsCountedAt, IsCountedOn, IsWorkerOf, board_at}
use Rattle.amber_home.specs.Asked.{Asked}
use Rattle.amber_home.specs.Going.{AreReady}
use Rattle.amber_home.specs.HomeState.{HomeState, query_of, rest_state, runs_to_end}
use Rattle.amber_home.specs.Lent.{IsLent, MakeTurns, board_of}
use Rattle.amber_home.specs.declared.crew.Crew.{Crew}
use Rattle.amber_home.proofs.Legs.{in-force-counted}
use Rattle.amber_home.proofs.Ready.{armed-counted, has-seat, no-seat, own-board}

-- ---- they stand somewhere again

module _ (query : Query) (start : State) (old new : List WorkerState) (positions : ℕ → Position) (at : AreJoinedAt query start old positions) (long : length new ≡ length old) (most : ℕ)
    (each : (worker : ℕ) → worker < length old → MakesTurns most (worker_state_at old worker) (worker_state_at new worker))
    (under : (worker : ℕ) → worker < crew_of query.flow → work.is_counted query start worker ≡ is_armed (worker_state_at old worker)) where
  inside-old : (worker : ℕ) → worker < crew_of query.flow → worker < length old
  inside-old worker inside = rw at.at_positions.all inside

  one : (worker : ℕ) → worker < crew_of query.flow
      → (q : Position) × IsAtPosition (context_in at.at_positions.bases query start worker) (worker_state_at new worker) (position_at start.positions worker) q
  unfolding KeepsUnder
  one worker inside =
      (each worker (inside-old worker inside)).keeps (context_in at.at_positions.bases query start worker) (position_at start.positions worker) (positions worker) (under worker inside)
      (at.at_positions.each worker inside)

  chosen : (worker : ℕ) → (worker < crew_of query.flow) ⊎ (crew_of query.flow ≤ worker) → Position
  chosen worker (inl inside) = (one worker inside).0
  chosen worker (inr past) = positions worker

  holds : (worker : ℕ) (tells : (worker < crew_of query.flow) ⊎ (crew_of query.flow ≤ worker)) → worker < crew_of query.flow
      → IsAtPosition (context_in at.at_positions.bases query start worker) (worker_state_at new worker) (position_at start.positions worker) (chosen worker tells)
  unfolding chosen
  holds worker (inl within) inside = (one worker within).1
  holds worker (inr past) inside = absurd (omega arith)

  pub joined-on : (later : ℕ → Position) × AreJoinedAt query start new later
  joined-on = (
    (λ worker. chosen worker (cases_lt worker (crew_of query.flow))),
    record {
      flow = at.flow;
      at_positions = record {
        bases = at.at_positions.bases;
        earlier = at.at_positions.earlier;
        all = long ∙ at.at_positions.all;
        each = λ worker inside. holds worker (cases_lt worker (crew_of query.flow)) inside;
      };
      joined = λ from to from-in to-in.
          joined-still (worker_state_at old from) (worker_state_at old to) (worker_state_at new from) (worker_state_at new to)
          (each from (inside-old from from-in)).ends (each to (inside-old to to-in)).ends (at.joined from to from-in to-in);
    },
  )

-- ---- their rows are counted

abbrev mine_of : List WorkerState → ℕ → ℕ
mine_of crew worker = mine_in (worker_state_at crew worker).seat

-- those of whom each has counted a unit for each row that it has emitted have done so together, and none has emitted fewer
balanced : (old new : List WorkerState) (workers : List ℕ)
    → ((worker : ℕ) → among worker workers ≡ true → mine_of new worker + (worker_state_at old worker).emitted ≡ mine_of old worker + (worker_state_at new worker).emitted)
    → units_at new workers + emitted_at old workers ≡ units_at old workers + emitted_at new workers
balanced old new [] each = refl
balanced old new (worker ∷ more) each =
    let one = each worker (among-first worker more) in
    let rest = balanced old new more (λ w known. each w (among-more w worker more known)) in
    let a = sum_by-cons (mine_of new) worker more in
    let b = sum_by-cons (λ w. (worker_state_at old w).emitted) worker more in
    let c = sum_by-cons (mine_of old) worker more in
    let d = sum_by-cons (λ w. (worker_state_at new w).emitted) worker more in
    omega arith

grown : (old new : List WorkerState) (workers : List ℕ)
    → ((worker : ℕ) → among worker workers ≡ true → (worker_state_at old worker).emitted ≤ (worker_state_at new worker).emitted) → emitted_at old workers ≤ emitted_at new workers
grown old new [] each = omega arith
grown old new (worker ∷ more) each =
    let one = each worker (among-first worker more) in
    let rest = grown old new more (λ w known. each w (among-more w worker more known)) in
    let a = sum_by-cons (λ w. (worker_state_at old w).emitted) worker more in
    let b = sum_by-cons (λ w. (worker_state_at new w).emitted) worker more in
    omega arith

module _ (arms : List Asked) (old new : DataflowState) (boards : List (Option CounterState)) (flow : new.flow ≡ old.flow) (all : length old.workers ≡ crew_of old.flow) (most : ℕ)
    (each : (worker : ℕ) → worker < length old.workers → MakesTurns most (worker_state_at old.workers worker) (worker_state_at new.workers worker))
    (own : (worker : ℕ) → worker < crew_of old.flow → IsBoardOf (board_of boards (op_of old.flow worker)) (worker_state_at new.workers worker).seat) where
  turns : (worker : ℕ) → worker < crew_of old.flow → MakesTurns most (worker_state_at old.workers worker) (worker_state_at new.workers worker)
  turns worker inside = each worker (rw all inside)

  was : (op worker : ℕ) → IsWorkerOf new op worker → IsWorkerOf old op worker
  was op worker mine = (subst (λ f. worker < crew_of f) flow mine.0, ap (λ f. op_of f worker) (sym flow) ∙ mine.1)

  rows-grow : (op : ℕ) → rows_emitted old op ≤ rows_emitted new op
  unfolding rows_emitted
  rows-grow op =
      subst (λ f. emitted_at old.workers (workers_of old.flow op) ≤ emitted_at new.workers (workers_of f op)) (sym flow)
      (grown old.workers new.workers (workers_of old.flow op) (λ worker known. (turns worker (worker-known old.flow op worker known)).emitted))

  seat-still : (counter : CounterState) (op : ℕ) → board_at boards op ≡ Some counter → IsCountedOn counter op old → (worker : ℕ) → IsWorkerOf old op worker → HasSeat counter.board new worker
  unfolding seat_of has_room
  seat-still counter op is on worker mine =
      has-seat counter.board new worker (seat_of new worker) refl
      (subst (λ found. IsBoardOf (option_map (λ (c : CounterState). c.board) found) (seat_of new worker)) (ap (board_at boards) mine.1 ∙ is) (own worker mine.0))
      ((turns worker mine.0).reserved ∙ (on.seats worker mine).room)

  units-still : (counter : CounterState) (op : ℕ) → IsCountedOn counter op old
      → units_counted new op + rows_emitted old op ≡ units_counted old op + rows_emitted new op
  unfolding units_counted rows_emitted seat_of
  units-still counter op on =
      subst (λ f. units_at new.workers (workers_of f op) + emitted_at old.workers (workers_of old.flow op) ≡ units_at old.workers (workers_of old.flow op) + emitted_at new.workers (workers_of f op)) (sym flow)
      (balanced old.workers new.workers (workers_of old.flow op)
      (λ worker known.
      let inside = worker-known old.flow op worker known in
      (turns worker inside).mine (ap is_some (on.seats worker (inside, worker-op old.flow op worker known)).is)))

  counted-on : (op : ℕ) (found : Option CounterState) → board_at boards op ≡ found → IsCountedAt found op old → IsCountedAt found op new
  unfolding seat_of
  counted-on op None is unarmed = λ worker mine.
      let inside = (was op worker mine).0 in
      no-seat (worker_state_at old.workers worker).seat (worker_state_at new.workers worker).seat (unarmed worker (was op worker mine)) (turns worker inside).seat
  counted-on op (Some counter) is on = record {
    workers = on.workers ∙ ap (λ f. worker_count f op) (sym flow);
    none = on.none;
    room = subst (λ f. worker_count f op ≤ counter.room) (sym flow) on.room;
    seats = λ worker mine. seat-still counter op is on worker (was op worker mine);
    since = record { since = let less = on.since.since in let more = rows-grow op in omega arith; few = on.since.few };
    units = let before = on.units in let now = units-still counter op on in omega arith;
  }

  pub ready-on : AreReady arms boards old → AreReady arms boards new
  ready-on ready = record {
    counted = record {
      all = subst (λ f. length boards ≤ length f) (sym flow) ready.counted.all;
      each = λ op some within. counted-on op (board_at boards op) refl (ready.counted.each op some (subst (λ f. op ≤ length f) flow within));
    };
    targets = ready.targets;
  }

-- ---- what is known of them

module _ (e : HomeState) (old : Crew) (lent : IsLent e old) where
  abbrev start : State
  start = leg_start (runs_to_end e.phase) (rest_state e)

  abbrev there : DataflowState
  there = record { flow = e.flow; workers = old.workers.items }

  all : length old.workers.items ≡ crew_of e.flow
  all = lent.workers.at.at_positions.all

  -- a count is in force just where a worker is armed
  under : (worker : ℕ) → worker < crew_of e.flow → work.is_counted (query_of e) start worker ≡ is_armed (worker_state_at old.workers.items worker)
  unfolding seat_of
  under worker inside =
      in-force-counted e.flow start lent.arms lent.in_force (op_of e.flow worker) ∙ armed-counted lent.arms old.boards there lent.ready worker inside

  -- a worker's operator is that of its place
  pub op-is : (worker : ℕ) → worker < crew_of e.flow → (worker_state_at old.workers.items worker).op ≡ op_of e.flow worker
  unfolding placement_of
  op-is worker inside = (lent.workers.at.at_positions.each worker inside).shows.op

  -- the seat that it has is one of its operator's board
  pub own-lent : (worker : ℕ) → worker < crew_of e.flow → IsBoardOf (board_of old.boards (op_of e.flow worker)) (worker_state_at old.workers.items worker).seat
  unfolding seat_of
  own-lent worker inside = own-board lent.arms old.boards there lent.ready worker inside

-- ---- so they may be taken back

module _ (e : HomeState) (old new : Crew) (most : ℕ) (lent : IsLent e old) (made : MakeTurns most old new) where
  own-on : (worker : ℕ) → worker < crew_of e.flow → IsBoardOf (board_of old.boards (op_of e.flow worker)) (worker_state_at new.workers.items worker).seat
  own-on worker inside =
      subst (λ op. IsBoardOf (board_of old.boards op) (worker_state_at new.workers.items worker).seat) (op-is e old lent worker inside) (made.own worker (rw (all e old lent) inside))

  pub lent-on : steps_by new.workers.items ≤ e.most → IsLent e new
  lent-on few =
      let next = joined-on (query_of e) (start e old lent) old.workers.items new.workers.items lent.workers.positions lent.workers.at made.all most made.each (under e old lent) in
      record {
        led = subst (λ boards. AreLedBy boards new.chiefs.items) (sym made.boards) made.led;
        workers = record { positions = next.0; at = next.1; few = few };
        arms = lent.arms;
        in_force = lent.in_force;
        ready = subst (λ boards. AreReady lent.arms boards (record { flow = e.flow; workers = new.workers.items })) (sym made.boards)
            (ready-on lent.arms (there e old lent) (record { flow = e.flow; workers = new.workers.items }) old.boards refl (all e old lent) most made.each own-on lent.ready);
      }

-- ---- how many steps they made

pub steps-grow : (most : ℕ) (old new : List WorkerState) → length new ≡ length old
    → ((worker : ℕ) → worker < length old → MakesTurns most (worker_state_at old worker) (worker_state_at new worker))
    → (steps_by old ≤ steps_by new) × (steps_by new ≤ steps_by old + length old * most)
steps-grow most [] [] long each = (omega arith, omega arith)
steps-grow most [] (w ∷ new) long each = absurd (omega arith)
steps-grow most (w ∷ old) [] long each = absurd (omega arith)
steps-grow most (w ∷ old) (v ∷ new) long each =
    let rest = steps-grow most old new (omega (arith, long)) (λ k below. each (suc k) (omega arith)) in
    let first = each 0 (omega arith) in
    let steps = first.steps in
    let made = first.more in
    let more : length (w ∷ old) * most ≡ length old * most + most = ap (λ n. n * most) (sym (add-one (length old))) ∙ one-more (length old) most in
    rw (steps-cons w old, steps-cons v new) (omega (arith, rest.0), omega (arith, rest.1))
  where
    one-more : (n m : ℕ) → (n + 1) * m ≡ n * m + m
    one-more n m = omega arith
