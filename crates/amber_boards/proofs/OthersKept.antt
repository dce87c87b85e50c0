-- What stays as it was where the workers of one operator are armed or disarmed, and where the workers stand then.
use Rattle.std.proofs.Common.{◌≡◌, ◌≢◌, refl, sym, ap, subst, ◌∙◌, ℕ, ◌+◌, ◌<◌, ◌≤◌, length, List, arith, Option, None, Some, Bool, true, false, is_some}
use Rattle.std.proofs.lemmas.List.{get_or_past}
use Rattle.amber_rows.specs.Topology.{crew_of, op_of, worker_count, workers_of}
use Rattle.amber_rows.specs.declared.flow.Operator.{Operator}
use Rattle.amber_meaning.specs.Legal.{Query}
use Rattle.amber_meaning.specs.Position.{Position}
use Rattle.amber_meaning.specs.State.{State, arms_at}
use Rattle.amber_meaning.proofs.Crews.{worker-op}
use Rattle.amber_worker.specs.Counting.{mine_in}
use Rattle.amber_worker.specs.WorkerState.{WorkerState}
use Rattle.amber_dataflow.specs.AtWork.{emitted_at, no_worker_state, units_at, worker_state_at}
use Rattle.amber_dataflow.specs.Dataflow.{AreAllThere, DataflowState, StandAt, has_finished, has_room, rows_emitted, seat_of, units_counted}
use Rattle.amber_dataflow.proofs.Emitted.{emitted-same}
use Rattle.amber_dataflow.proofs.Units.{units-same}
use Rattle.amber_board.specs.Seats.{target_of}
use Rattle.amber_board.specs.declared.types.Board.{Board}
use Rattle.amber_boards.specs.Boards.{AreUnarmedAt, ChangeUnits, ChangesAt, CounterState, HasSeat, IsCountedAt, IsCountedOn, IsSameButUnits, IsWorkerOf, StandInForce, StandsCounted}

-- ---- one worker

-- what changes nothing but units twice changes nothing else together
pub same-then : (a b c : WorkerState) → IsSameButUnits a b → IsSameButUnits b c → IsSameButUnits a c
same-then a b c first next =
    next
    ∙ ap (λ (w : WorkerState). record w { seat = c.seat; restraint = record w.restraint { hand = c.restraint.hand }; journal = c.journal; reserved = c.reserved }) first

-- ---- all workers

module _ (old new : DataflowState) (flow : new.flow ≡ old.flow) (same : (worker : ℕ) → IsSameButUnits (worker_state_at old.workers worker) (worker_state_at new.workers worker)) where
  -- the rows that were emitted stay the same
  pub rows-same : (op : ℕ) → rows_emitted new op ≡ rows_emitted old op
  unfolding rows_emitted
  rows-same op =
      ap (λ (f : List Operator). emitted_at new.workers (workers_of f op)) flow
      ∙ emitted-same old.workers new.workers (workers_of old.flow op) (λ worker known. ap (λ (w : WorkerState). w.emitted) (same worker))

  -- and so does who has finished
  pub finished-same : (worker : ℕ) → has_finished new worker ≡ has_finished old worker
  unfolding has_finished
  finished-same worker = ap (λ (w : WorkerState). w.finished) (same worker)

-- nobody came or went
pub there-still : (old new : DataflowState) → new.flow ≡ old.flow → length new.workers ≡ length old.workers → AreAllThere old → AreAllThere new
there-still old new flow long there = long ∙ there ∙ ap crew_of (sym flow)

-- past the last worker nobody is there, before and after
pub nobody-there : (old new : DataflowState) (worker : ℕ) → length new.workers ≡ length old.workers → length old.workers ≤ worker
    → worker_state_at new.workers worker ≡ worker_state_at old.workers worker
nobody-there old new worker long end =
    get_or_past new.workers worker no_worker_state (omega arith) ∙ sym (get_or_past old.workers worker no_worker_state end)

-- a worker of an operator was one before
pub worker-before : (old new : DataflowState) (op worker : ℕ) → new.flow ≡ old.flow → IsWorkerOf new op worker → IsWorkerOf old op worker
worker-before old new op worker flow is = subst (λ (f : List Operator). (worker < crew_of f) × (op_of f worker ≡ op)) flow is

-- ---- an operator whose workers are as they were

module _ (old new : DataflowState) (op : ℕ) (flow : new.flow ≡ old.flow)
    (kept : (worker : ℕ) → op_of old.flow worker ≡ op → worker_state_at new.workers worker ≡ worker_state_at old.workers worker) where
  -- none of them has a seat, if none had
  unarmed-kept : AreUnarmedAt op old → AreUnarmedAt op new
  unfolding seat_of
  unarmed-kept unarmed worker is =
      let before = worker-before old new op worker flow is in
      ap (λ (w : WorkerState). w.seat) (kept worker before.1) ∙ unarmed worker before

  -- each has its seat still
  seat-kept : (board : Board) (worker : ℕ) → op_of old.flow worker ≡ op → HasSeat board old worker → HasSeat board new worker
  unfolding seat_of has_room
  seat-kept board worker is has = record {
    seat = has.seat;
    is = ap (λ (w : WorkerState). w.seat) (kept worker is) ∙ has.is;
    own = has.own;
    room = ap (λ (w : WorkerState). w.reserved) (kept worker is) ∙ has.room;
  }

  -- they have emitted what they had
  rows-kept : rows_emitted new op ≡ rows_emitted old op
  unfolding rows_emitted
  rows-kept =
      ap (λ (f : List Operator). emitted_at new.workers (workers_of f op)) flow
      ∙ emitted-same old.workers new.workers (workers_of old.flow op)
      (λ worker known. ap (λ (w : WorkerState). w.emitted) (kept worker (worker-op old.flow op worker known)))

  -- and have counted what they had
  units-kept : units_counted new op ≡ units_counted old op
  unfolding units_counted
  units-kept =
      ap (λ (f : List Operator). units_at new.workers (workers_of f op)) flow
      ∙ units-same old.workers new.workers (workers_of old.flow op)
      (λ worker known. ap (λ (w : WorkerState). mine_in w.seat) (kept worker (worker-op old.flow op worker known)))

  -- its count is counted as it was
  counted-on-kept : (counter : CounterState) → IsCountedOn counter op old → IsCountedOn counter op new
  counted-on-kept counter on = record {
    workers = on.workers ∙ ap (λ f. worker_count f op) (sym flow);
    none = on.none;
    room = subst (λ f. worker_count f op ≤ counter.room) (sym flow) on.room;
    seats = λ worker is. let before = worker-before old new op worker flow is in seat-kept counter.board worker before.1 (on.seats worker before);
    since = record { since = subst (λ n. counter.target.since ≤ n) (sym rows-kept) on.since.since; few = on.since.few };
    units = ap (λ n. target_of counter.board + n) rows-kept ∙ on.units ∙ ap (λ n. counter.target.target + counter.target.since + n) (sym units-kept);
  }

  -- and where it has none nobody has a seat
  pub counted-kept : (counter : Option CounterState) → IsCountedAt counter op old → IsCountedAt counter op new
  counted-kept None unarmed = unarmed-kept unarmed
  counted-kept (Some counter) on = counted-on-kept counter on

-- ---- changes at one operator

-- nothing was changed
pub changes-none : (op : ℕ) (d : DataflowState) → ChangesAt op d d
changes-none op d = record {
  flow = refl;
  long = refl;
  same = λ worker. refl;
  others = λ worker apart. refl;
  on = λ query start positions stand counted. (positions, stand);
}

-- it was changed twice
pub changes-twice : (op : ℕ) (old mid new : DataflowState) → ChangesAt op old mid → ChangesAt op mid new → ChangesAt op old new
changes-twice op old mid new before now = record {
  flow = now.flow ∙ before.flow;
  long = now.long ∙ before.long;
  same = λ worker. same-then (worker_state_at old.workers worker) (worker_state_at mid.workers worker) (worker_state_at new.workers worker) (before.same worker) (now.same worker);
  others = λ worker apart. now.others worker (λ is. apart (ap (λ f. op_of f worker) (sym before.flow) ∙ is)) ∙ before.others worker apart;
  on = λ query start positions stand counted. let first = before.on query start positions stand counted in now.on query start first.0 first.1 counted;
}

-- they were changed, or nothing was
pub changes-either : (b : Bool) (op : ℕ) (old new : DataflowState) → (b ≡ true → ChangesAt op old new) → (b ≡ false → new ≡ old) → ChangesAt op old new
changes-either true op old new changes none = changes refl
changes-either false op old new changes none = subst (λ d. ChangesAt op old d) (sym (none refl)) (changes-none op old)

-- what is counted at another operator is counted there still
pub other-counted : (old new : DataflowState) (op other : ℕ) (counter : Option CounterState) → ChangesAt op old new → other ≢ op → IsCountedAt counter other old → IsCountedAt counter other new
other-counted old new op other counter changes apart is =
    counted-kept old new other changes.flow (λ worker own. changes.others worker (λ same. apart (sym own ∙ same))) counter is

-- they stand in a leg in which the count is in force still
pub counted-then : (op : ℕ) (old new : DataflowState) → ChangesAt op old new → StandsCounted op old → StandsCounted op new
counted-then op old new changes stand =
    let later = changes.on stand.0 stand.1 stand.2 stand.3 stand.4 in
    (stand.0, stand.1, later.0, later.1, stand.4)

-- ---- changes at one operator after the other

module _ (counted : ℕ → Bool) where
  -- nothing was changed
  pub units-none : (d : DataflowState) → ChangeUnits counted d d
  units-none d = record { flow = refl; long = refl; same = λ worker. refl; on = λ query start positions stand force. (positions, stand) }

  -- they stand again after a change, or stand still
  stand-either : (b : Bool) (op : ℕ) (mid new : DataflowState) (query : Query) (start : State) (positions : ℕ → Position) → ChangesAt op mid new → (b ≡ false → new ≡ mid)
      → StandAt query start mid positions → is_some (arms_at start op).count ≡ b → (later : ℕ → Position) × StandAt query start new later
  stand-either true op mid new query start positions changes none stand is = changes.on query start positions stand is
  stand-either false op mid new query start positions changes none stand is = (positions, subst (λ d. StandAt query start d positions) (sym (none refl)) stand)

  -- one operator more was, if it has a count
  pub units-then : (op : ℕ) (old mid new : DataflowState) → ChangeUnits counted old mid → ChangesAt op mid new → (counted op ≡ false → new ≡ mid) → ChangeUnits counted old new
  units-then op old mid new before now none = record {
    flow = now.flow ∙ before.flow;
    long = now.long ∙ before.long;
    same = λ worker. same-then (worker_state_at old.workers worker) (worker_state_at mid.workers worker) (worker_state_at new.workers worker) (before.same worker) (now.same worker);
    on = λ query start positions stand force.
        let first = before.on query start positions stand force in
        stand-either (counted op) op mid new query start first.0 now none first.1 (force op);
  }

  -- they stand in such a leg still, in which the count of each operator that counts is in force
  pub stands-counted : (op : ℕ) (old new : DataflowState) → ChangeUnits counted old new → StandInForce counted old → counted op ≡ true → StandsCounted op new
  stands-counted op old new units stand is =
      let later = units.on stand.0 stand.1 stand.2 stand.3 stand.4 in
      (stand.0, stand.1, later.0, later.1, stand.4 op ∙ is)
