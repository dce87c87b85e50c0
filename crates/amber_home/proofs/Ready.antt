-- Workers that may make turns, on the boards of the counts that are in force, and that may still after a turn.
use Rattle.std.proofs.Common.{◌≡◌, refl, sym, ap, subst, ◌∙◌, ℕ, zero, suc, ◌+◌, ◌<◌, ◌≤◌, List, [], length, true, Option, None, Some, is_some, option_map, unwrap_or, inl, inr, arith}
use Rattle.std.proofs.lemmas.Bool.Decides.{eqb_tells}
use Rattle.amber_rows.specs.Topology.{crew_of, op_of, worker_count}
use Rattle.amber_rows.specs.declared.flow.Operator.{Operator}
use Rattle.amber_board.specs.declared.types.Board.{Board}
use Rattle.amber_board.specs.declared.types.WorkSeat.{WorkSeat}
use Rattle.amber_meaning.specs.Legal.{Query}
use Rattle.amber_meaning.specs.Position.{Position}
use Rattle.amber_meaning.specs.State.{State, arms_at}
use Rattle.amber_meaning.proofs.Crews.{op-within}
use Rattle.amber_worker.specs.Counting.{IsBoardOf, IsSameSeat}
use Rattle.amber_dataflow.specs.AtWork as work
use Rattle.amber_dataflow.specs.Dataflow.{AreInArmedLeg, DataflowState, StandAt, StandsUnder, TurnsAt, all_resumed, has_room, is_armed_at, rows_emitted, seat_of, units_counted}
use Rattle.amber_boards.specs.Boards.{AreInForce, AreUnarmed, CounterState, HasSeat, IsCountedAt, IsCountedOn, IsWorkerOf, StandInForce, board_at, has_board, target_at, target_of_count, targets_of}
use Rattle.amber_home.specs.Asked.{Asked}
use Rattle.amber_home.specs.Going.{AreReady}
use Rattle.amber_home.specs.Leg.{count_at, counts_asked, is_count_asked}
use Rattle.amber_home.proofs.Places.{at-map, nth-past}
use Rattle.amber_home.proofs.Reached.{target-asked}
use Rattle.amber_home.proofs.Units.{counted-kept, keep-resumed, resumed-room}

-- ---- what there is at an operator

-- what is asked for on a board is what is asked for at its operator
pub target-board : (boards : List (Option CounterState)) (op : ℕ) → target_at (targets_of boards) op ≡ target_of_count (board_at boards op)
target-board boards op = at-map target_of_count boards op None None refl

-- boards that were made for these counts
pub targets-board : (arms : List Asked) (boards : List (Option CounterState)) → targets_of boards ≡ counts_asked arms → (op : ℕ) → target_of_count (board_at boards op) ≡ count_at arms op
targets-board arms boards same op = sym (target-board boards op) ∙ ap (λ counts. target_at counts op) same ∙ target-asked arms op

-- and others that ask for the same
pub targets-still : (arms : List Asked) (old new : List (Option CounterState)) → targets_of new ≡ targets_of old
    → ((op : ℕ) → target_of_count (board_at old op) ≡ count_at arms op) → (op : ℕ) → target_of_count (board_at new op) ≡ count_at arms op
targets-still arms old new same targets op =
    sym (target-board new op) ∙ ap (λ counts. target_at counts op) same ∙ target-board old op ∙ targets op

-- there is a board just where a count is in force
pub boards-counted : (arms : List Asked) (boards : List (Option CounterState)) → ((op : ℕ) → target_of_count (board_at boards op) ≡ count_at arms op) → (op : ℕ) → has_board boards op ≡ is_count_asked arms op
boards-counted arms boards same op = by (board_at boards op) ∙ ap is_some (same op)
  where
    by : (found : Option CounterState) → is_some found ≡ is_some (target_of_count found)
    by None = refl
    by (Some counter) = refl

-- where no count is in force and nobody has a seat, no board is wanted
pub ready-none : (arms : List Asked) (d : DataflowState) → AreUnarmed d → ((op : ℕ) → count_at arms op ≡ None) → AreReady arms [] d
ready-none arms d unarmed none = record {
  counted = record { all = omega arith; each = λ op some within. subst (λ found. IsCountedAt found op d) (sym (none-at op)) (λ worker own. unarmed worker own.0) };
  targets = λ op. ap target_of_count (none-at op) ∙ sym (none op);
}
  where
    none-at : (op : ℕ) → board_at [] op ≡ None
    none-at zero = refl
    none-at (suc i) = ap (λ found. unwrap_or found None) (nth-past [] (suc i) (omega arith))

-- ---- who is armed

-- a worker is armed just where there is a board
armed-by : (found : Option CounterState) (op : ℕ) (d : DataflowState) (worker : ℕ) → IsCountedAt found op d → IsWorkerOf d op worker → is_some found ≡ is_armed_at d worker
armed-by None op d worker unarmed own = ap is_some (sym (unarmed worker own))
armed-by (Some counter) op d worker on own = ap is_some (sym (on.seats worker own).is)

-- and its board is that of its seat
own-by : (found : Option CounterState) (op : ℕ) (d : DataflowState) (worker : ℕ) → IsCountedAt found op d → IsWorkerOf d op worker
    → IsBoardOf (option_map (λ (c : CounterState). c.board) found) (seat_of d worker)
own-by None op d worker unarmed own = subst (IsBoardOf None) (sym (unarmed worker own)) tt
own-by (Some counter) op d worker on own = let has = on.seats worker own in subst (IsBoardOf (Some counter.board)) (sym has.is) has.own

module _ (arms : List Asked) (boards : List (Option CounterState)) (d : DataflowState) (ready : AreReady arms boards d) (worker : ℕ) (inside : worker < crew_of d.flow) where
  abbrev op : ℕ
  op = op_of d.flow worker

  here : IsCountedAt (board_at boards op) op d
  here = let placed = op-within d.flow worker inside in ready.counted.each op placed.0 placed.1

  pub own-board : IsBoardOf (option_map (λ (c : CounterState). c.board) (board_at boards op)) (seat_of d worker)
  own-board = own-by (board_at boards op) op d worker here (inside, refl)

  pub armed-counted : is_count_asked arms op ≡ is_armed_at d worker
  armed-counted =
      sym (boards-counted arms boards ready.targets op) ∙ armed-by (board_at boards op) op d worker here (inside, refl)

  -- in a leg with these counts
  pub armed-in : (query : Query) (start : State) (positions : ℕ → Position) → StandAt query start d positions → AreInForce (is_count_asked arms) start
      → work.is_counted query start worker ≡ is_armed_at d worker
  armed-in query start positions stand in_force =
      ap (λ (f : List Operator). is_some (arms_at start (op_of f worker)).count) (sym stand.flow) ∙ in_force op ∙ armed-counted

  -- and there is such a leg
  pub stands-under : StandInForce (is_count_asked arms) d → StandsUnder (is_armed_at d worker) d worker
  stands-under stand = (stand.0, stand.1, stand.2, stand.3, armed-in stand.0 stand.1 stand.2 stand.3 stand.4)

-- so are all
pub all-armed : (arms : List Asked) (boards : List (Option CounterState)) (d : DataflowState) → AreReady arms boards d → StandInForce (is_count_asked arms) d → AreInArmedLeg d
all-armed arms boards d ready stand = (
  stand.0,
  stand.1,
  stand.2,
  stand.3,
  λ worker inside. armed-in arms boards d ready worker (subst (λ (f : List Operator). worker < crew_of f) (sym stand.3.flow) inside) stand.0 stand.1 stand.2 stand.3 stand.4,
)

-- ---- after turns of a worker

pub no-seat : (seat now : Option WorkSeat) → seat ≡ None → IsSameSeat seat now → now ≡ None
no-seat None now none same = same
no-seat (Some seat) now none same = cc

-- a board of which the worker has a seat
pub has-seat : (board : Board) (d : DataflowState) (worker : ℕ) (found : Option WorkSeat) → found ≡ seat_of d worker → IsBoardOf (Some board) found → has_room d worker ≡ true → HasSeat board d worker
has-seat board d worker None is own room = absurd own
has-seat board d worker (Some seat) is own room = record { seat = seat; is = sym is; own = own; room = room }

module _ (boards : List (Option CounterState)) (old new : DataflowState) (worker made : ℕ) (turns : TurnsAt made old new worker)
    (own : IsBoardOf (option_map (λ (c : CounterState). c.board) (board_at boards (op_of old.flow worker))) (seat_of new worker)) where
  worker-was : (op other : ℕ) → IsWorkerOf new op other → IsWorkerOf old op other
  worker-was op other mine = (subst (λ (f : List Operator). other < crew_of f) turns.flow mine.0, ap (λ (f : List Operator). op_of f other) (sym turns.flow) ∙ mine.1)

  -- one that has no seat gets none
  unarmed-still : (other : ℕ) → seat_of old other ≡ None → seat_of new other ≡ None
  unarmed-still other none = elim (eqb_tells other worker) [
    | inl same ↦ ap (seat_of new) same.1 ∙ no-seat (seat_of old worker) (seat_of new worker) (ap (seat_of old) (sym same.1) ∙ none) turns.seat
    | inr apart ↦ (turns.others other apart.1).seat ∙ none
  ]

  -- one that has a seat keeps one of the same board
  seat-still : (counter : CounterState) (op : ℕ) → board_at boards op ≡ Some counter → IsCountedOn counter op old → (other : ℕ) → IsWorkerOf old op other → HasSeat counter.board new other
  seat-still counter op is on other mine = elim (eqb_tells other worker) [
    | inl same ↦
        let there : op_of old.flow worker ≡ op = ap (op_of old.flow) (sym same.1) ∙ mine.1 in
        subst (HasSeat counter.board new) (sym same.1)
        (has-seat counter.board new worker (seat_of new worker) refl
        (subst (λ found. IsBoardOf (option_map (λ (c : CounterState). c.board) found) (seat_of new worker)) (ap (board_at boards) there ∙ is) own)
        (turns.room ∙ ap (has_room old) (sym same.1) ∙ (on.seats other mine).room))
    | inr apart ↦
        let had = on.seats other mine in
        let still = turns.others other apart.1 in
        record { seat = had.seat; is = still.seat ∙ had.is; own = had.own; room = still.room ∙ had.room }
  ]

  -- rows that were emitted were counted
  units-still : (counter : CounterState) (op : ℕ) → worker < crew_of old.flow → IsCountedOn counter op old
      → (rows_emitted old op ≤ rows_emitted new op) × (units_counted new op + rows_emitted old op ≡ units_counted old op + rows_emitted new op)
  units-still counter op inside on = elim (eqb_tells op (op_of old.flow worker)) [
    | inl same ↦
        let armed : is_armed_at old worker ≡ true = ap is_some (on.seats worker (inside, sym same.1)).is in
        let rows = turns.more in
        let units = turns.units armed in (
          subst (λ k. rows_emitted old k ≤ rows_emitted new k) (sym same.1) rows,
          subst (λ k. units_counted new k + rows_emitted old k ≡ units_counted old k + rows_emitted new k) (sym same.1) units,
        )
    | inr apart ↦
        let rows = turns.emitted op apart.1 in
        let units = turns.counted op apart.1 in
        (omega arith, omega arith)
  ]

  counted-turned : worker < crew_of old.flow → (op : ℕ) (found : Option CounterState) → board_at boards op ≡ found → IsCountedAt found op old → IsCountedAt found op new
  counted-turned inside op None is unarmed = λ other mine. unarmed-still other (unarmed other (worker-was op other mine))
  counted-turned inside op (Some counter) is on =
      let still = units-still counter op inside on in
      record {
        workers = on.workers ∙ ap (λ (f : List Operator). worker_count f op) (sym turns.flow);
        none = on.none;
        room = subst (λ (f : List Operator). worker_count f op ≤ counter.room) (sym turns.flow) on.room;
        seats = λ other mine. seat-still counter op is on other (worker-was op other mine);
        since = record { since = let less = on.since.since in let more = still.0 in omega arith; few = on.since.few };
        units = let was = on.units in let now = still.1 in omega arith;
      }

  pub ready-turned : (arms : List Asked) → worker < crew_of old.flow → AreReady arms boards old → AreReady arms boards new
  ready-turned arms inside ready = record {
    counted = record {
      all = subst (λ (f : List Operator). length boards ≤ length f) (sym turns.flow) ready.counted.all;
      each = λ op some within.
          counted-turned inside op (board_at boards op) refl (ready.counted.each op some (subst (λ (f : List Operator). op ≤ length f) turns.flow within));
    };
    targets = ready.targets;
  }

-- ---- after a pause

pub ready-resumed : (arms : List Asked) (boards : List (Option CounterState)) (d : DataflowState) → AreReady arms boards d → AreReady arms boards (all_resumed d)
ready-resumed arms boards d ready = record {
  counted = counted-kept d (all_resumed d) (keep-resumed d) (resumed-room d) boards ready.counted;
  targets = ready.targets;
}
