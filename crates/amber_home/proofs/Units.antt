-- What changes no unit: seats, hands and rows that were emitted stay, and with them what is said of counts.
use Rattle.std.proofs.Common.{◌≡◌, refl, sym, ap, subst, ◌∙◌, ℕ, zero, suc, ◌<◌, ◌≤◌, List, [], ◌∷◌, length, map, set, Bool, true, false, Option, None, Some, if◌then◌else◌}
use Rattle.amber_rows.specs.Topology.{crew_of, op_of, worker_count, workers_of}
use Rattle.amber_rows.specs.declared.flow.Operator.{Operator}
use Rattle.amber_worker.specs.Counting.{mine_in}
use Rattle.amber_worker.specs.WorkerState.{WorkerState}
use Rattle.amber_dataflow.specs.AtWork.{worker_state_at}
use Rattle.amber_dataflow.specs.Dataflow.{DataflowState, all_resumed, hand_of, handed_out, has_room, leg_begun, rows_emitted, seat_of, units_counted, worker_begun, worker_resumed}
use Rattle.amber_dataflow.specs.Parts.{without_journal}
use Rattle.amber_dataflow.proofs.Crews.{at-each, here-now, there-still}
use Rattle.amber_dataflow.proofs.Emitted.{emitted-same}
use Rattle.amber_dataflow.proofs.Units.{units-same}
use Rattle.amber_boards.specs.Boards.{AreBelow, AreCounted, AreEmptyHanded, AreUnarmed, AreWithinTargets, CounterState, IsCountedAt, board_at}
use Rattle.amber_boards.specs.declared.target.Target.{Target}

-- a worker keeps its seat, its hand and the rows that it has emitted
pub record KeepsUnit (old new : WorkerState) : Type 0 where
  pub seat : new.seat ≡ old.seat
  pub hand : new.restraint.hand ≡ old.restraint.hand
  pub emitted : new.emitted ≡ old.emitted

-- all do
pub record KeepUnits (old new : DataflowState) : Type 0 where
  pub flow : new.flow ≡ old.flow
  pub each : (worker : ℕ) → KeepsUnit (worker_state_at old.workers worker) (worker_state_at new.workers worker)

pub keep-same : (d : DataflowState) → KeepUnits d d
keep-same d = record { flow = refl; each = λ worker. record { seat = refl; hand = refl; emitted = refl } }

pub keep-then : (a b c : DataflowState) → KeepUnits a b → KeepUnits b c → KeepUnits a c
keep-then a b c first second = record {
  flow = second.flow ∙ first.flow;
  each = λ worker.
      let one = first.each worker in
      let two = second.each worker in
      record { seat = two.seat ∙ one.seat; hand = two.hand ∙ one.hand; emitted = two.emitted ∙ one.emitted };
}

-- ---- a change of each worker, or of one

mapped : (change : WorkerState → WorkerState) → ((w : WorkerState) → KeepsUnit w (change w)) → (crew : List WorkerState) (k : ℕ)
    → KeepsUnit (worker_state_at crew k) (worker_state_at (map change crew) k)
mapped change keeps [] k = record { seat = refl; hand = refl; emitted = refl }
mapped change keeps (w ∷ crew) zero = keeps w
mapped change keeps (w ∷ crew) (suc k) = mapped change keeps crew k

pub keep-mapped : (change : WorkerState → WorkerState) → ((w : WorkerState) → KeepsUnit w (change w)) → (d : DataflowState) → KeepUnits d (record d { workers = map change d.workers })
keep-mapped change keeps d = record { flow = refl; each = mapped change keeps d.workers }

pub keep-set : (d : DataflowState) (worker : ℕ) (now : WorkerState) → worker < length d.workers → KeepsUnit (worker_state_at d.workers worker) now
    → KeepUnits d (record d { workers = set d.workers worker now })
keep-set d worker now there keeps = record {
  flow = refl;
  each = at-each (λ k. KeepsUnit (worker_state_at d.workers k) (worker_state_at (set d.workers worker now) k)) worker
      (rw (here-now d.workers worker now there) keeps)
      (λ k ne. rw (there-still d.workers worker now there k ne) (record { seat = refl; hand = refl; emitted = refl }));
}

-- a leg begins
pub keep-begun : (to_end : Bool) (d : DataflowState) → KeepUnits d (leg_begun to_end d)
keep-begun true d = keep-mapped (worker_begun true) (λ w. record { seat = refl; hand = refl; emitted = refl }) d
keep-begun false d = keep-mapped (worker_begun false) (λ w. record { seat = refl; hand = refl; emitted = refl }) d

-- journals are handed out
pub keep-handed_out : (d : DataflowState) → KeepUnits d (handed_out d)
keep-handed_out d = keep-mapped without_journal (λ w. record { seat = refl; hand = refl; emitted = refl }) d

-- who was paused goes on
pub keep-resumed : (d : DataflowState) → KeepUnits d (all_resumed d)
keep-resumed d = keep-mapped worker_resumed (λ w. by w w.restraint.paused) d
  where
    by : (w : WorkerState) (b : Bool) → KeepsUnit w (if b then Rattle.amber_worker.specs.Changes.resumed_at w else w)
    by w true = record { seat = refl; hand = refl; emitted = refl }
    by w false = record { seat = refl; hand = refl; emitted = refl }

-- ---- what is said of counts

module _ (old new : DataflowState) (keep : KeepUnits old new) where
  pub rows-kept : (op : ℕ) → rows_emitted new op ≡ rows_emitted old op
  unfolding rows_emitted
  rows-kept op =
      emitted-same old.workers new.workers (workers_of new.flow op) (λ worker known. (keep.each worker).emitted)
      ∙ ap (λ (f : List Operator). Rattle.amber_dataflow.specs.AtWork.emitted_at old.workers (workers_of f op)) keep.flow

  pub units-kept : (op : ℕ) → units_counted new op ≡ units_counted old op
  unfolding units_counted
  units-kept op =
      units-same old.workers new.workers (workers_of new.flow op) (λ worker known. ap mine_in (keep.each worker).seat)
      ∙ ap (λ (f : List Operator). Rattle.amber_dataflow.specs.AtWork.units_at old.workers (workers_of f op)) keep.flow

  pub seat-kept : (worker : ℕ) → seat_of new worker ≡ seat_of old worker
  unfolding seat_of
  seat-kept worker = (keep.each worker).seat

  pub hand-kept : (worker : ℕ) → hand_of new worker ≡ hand_of old worker
  unfolding hand_of
  hand-kept worker = (keep.each worker).hand

  pub unarmed-kept : AreUnarmed old → AreUnarmed new
  unarmed-kept unarmed worker inside = seat-kept worker ∙ unarmed worker (subst (λ (f : List Operator). worker < crew_of f) keep.flow inside)

  pub empty-kept : AreEmptyHanded old → AreEmptyHanded new
  empty-kept empty worker inside = hand-kept worker ∙ empty worker (subst (λ (f : List Operator). worker < crew_of f) keep.flow inside)

  pub below-kept : (counts : List (Option Target)) → AreBelow counts old → AreBelow counts new
  below-kept counts below op = rw (rows-kept op) (below op)

  pub within-kept : (counts : List (Option Target)) → AreWithinTargets counts old → AreWithinTargets counts new
  within-kept counts within op = rw (rows-kept op) (within op)

  -- where they keep the room in their journals too, all is counted on the same boards
  module _ (room : (worker : ℕ) → has_room new worker ≡ has_room old worker) where
    counted-at : (op : ℕ) (counter : Option CounterState) → IsCountedAt counter op old → IsCountedAt counter op new
    counted-at op None unarmed = λ worker own. seat-kept worker ∙ unarmed worker (subst (λ (f : List Operator). worker < crew_of f) keep.flow own.0, ap (λ (f : List Operator). op_of f worker) (sym keep.flow) ∙ own.1)
    counted-at op (Some counter) on = record {
      workers = on.workers ∙ ap (λ (f : List Operator). worker_count f op) (sym keep.flow);
      none = on.none;
      room = subst (λ (f : List Operator). worker_count f op ≤ counter.room) (sym keep.flow) on.room;
      seats = λ worker own.
          let had = on.seats worker (subst (λ (f : List Operator). worker < crew_of f) keep.flow own.0, ap (λ (f : List Operator). op_of f worker) (sym keep.flow) ∙ own.1) in
          record { seat = had.seat; is = seat-kept worker ∙ had.is; own = had.own; room = room worker ∙ had.room };
      since = rw (rows-kept op) on.since;
      units = rw (rows-kept op, units-kept op) on.units;
    }

    pub counted-kept : (boards : List (Option CounterState)) → AreCounted boards old → AreCounted boards new
    counted-kept boards counted = record {
      all = subst (λ (f : List Operator). length boards ≤ length f) (sym keep.flow) counted.all;
      each = λ op some within. counted-at op (board_at boards op) (counted.each op some (subst (λ (f : List Operator). op ≤ length f) keep.flow within));
    }

pub resumed-room : (d : DataflowState) (worker : ℕ) → has_room (all_resumed d) worker ≡ has_room d worker
unfolding has_room
resumed-room d worker = get d.workers worker
  where
    by : (w : WorkerState) (b : Bool) → (if b then Rattle.amber_worker.specs.Changes.resumed_at w else w).reserved ≡ w.reserved
    by w true = refl
    by w false = refl

    get : (crew : List WorkerState) (k : ℕ) → (worker_state_at (map worker_resumed crew) k).reserved ≡ (worker_state_at crew k).reserved
    get [] k = refl
    get (w ∷ crew) zero = by w w.restraint.paused
    get (w ∷ crew) (suc k) = get crew k
