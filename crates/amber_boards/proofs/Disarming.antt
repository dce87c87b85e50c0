-- Workers give their seats back, one by one: what they are then, and what the seats have counted.
use Rattle.std.proofs.Common.{◌≡◌, refl, sym, ap, subst, ◌∙◌, ℕ, ◌+◌, ◌-◌, ◌<◌, ◌≤◌, List, [], ◌∷◌, ◌++◌, length, map, sum_by, All, Option, Some, add-one, true, arith, length-append}
use Rattle.std.proofs.lemmas.List.{map-append}
use Rattle.std.proofs.lemmas.List.Elements.{All-push}
use Rattle.std.proofs.lemmas.List.Sums.{sum_by_push}
use Rattle.amber_rows.specs.Lists.{numbers_below}
use Rattle.amber_rows.specs.Topology.{first_worker_of, worker_count, workers_of}
use Rattle.amber_board.specs.declared.types.Board.{Board}
use Rattle.amber_board.specs.declared.types.WorkSeat.{WorkSeat}
use Rattle.amber_board.specs.declared.view.View.{View}
use Rattle.amber_board.specs.Seats.{IsSeatOf, board_workers, work_view}
use Rattle.amber_meaning.proofs.Crews.{own-worker, worker-within}
use Rattle.amber_meaning.proofs.Numbers.{among}
use Rattle.amber_worker.specs.Changes.{disarmed_at}
use Rattle.amber_worker.specs.Counting.{GivesBack, IsBoardOf, mine_in}
use Rattle.amber_worker.specs.WorkerState.{WorkerState}
use Rattle.amber_dataflow.specs.AtWork.{units_at, worker_state_at}
use Rattle.amber_dataflow.specs.Dataflow.{AreAllThere, DataflowState, MovesUnder, has_room, seat_of, units_counted, worker_disarmed}
use Rattle.amber_boards.specs.Boards.{CounterState, DisarmsOperator, HasSeat, HoldsSeats, IsCountedOn}
use Rattle.amber_boards.proofs.OneByOne.{AreChanged, changed-next, next-still, own-place}

-- ---- the workers

-- the worker at a place has no seat
abbrev pub IsDisarmed : ℕ → DataflowState → ℕ → WorkerState → Type 0
IsDisarmed first old place now = now ≡ disarmed_at (worker_state_at old.workers (first + place))

-- where each has none the operator is disarmed
pub disarms-operator : (op first n : ℕ) (old new : DataflowState) → AreChanged op first n (IsDisarmed first old) old new → first ≡ first_worker_of old.flow op
    → worker_count old.flow op ≤ n → DisarmsOperator op old new
disarms-operator op first n old new changed first-is whole = record {
  change = changed.change;
  here = λ worker own.
      let known = worker-within old.flow op worker (subst (λ o. among worker (workers_of old.flow o) ≡ true) own.1 (own-worker old.flow worker own.0)) in
      let low = known.0 in
      let high = known.1 in
      let back : first + (worker - first) ≡ worker = omega arith in
      subst (λ k. worker_state_at new.workers k ≡ disarmed_at (worker_state_at old.workers k)) back (changed.here (worker - first) (omega arith));
}

-- ---- the seats

-- what so many workers in a row have counted
abbrev pub row_units : List WorkerState → ℕ → ℕ → ℕ
row_units crew first n = units_at crew (map (λ place. first + place) (numbers_below n))

-- none have counted nothing
row-none : (crew : List WorkerState) (first : ℕ) → row_units crew first 0 ≡ 0
unfolding numbers_below
row-none crew first = refl

-- and one more
row-more : (crew : List WorkerState) (first n : ℕ) → row_units crew first n + mine_in (worker_state_at crew (first + n)).seat ≡ row_units crew first (n + 1)
unfolding numbers_below
row-more crew first n =
    let mine : ℕ → ℕ = λ worker. mine_in (worker_state_at crew worker).seat in
    let next : map (λ place. first + place) (numbers_below (n + 1)) ≡ map (λ place. first + place) (numbers_below n) ++ (first + n) ∷ [] =
    ap (λ m. map (λ place. first + place) (numbers_below m)) (add-one n) ∙ map-append (λ place. first + place) (numbers_below n) (n ∷ []) in
    sym (ap (sum_by mine) next ∙ sum_by_push mine (map (λ place. first + place) (numbers_below n)) (first + n))

-- these are all of an operator's
pub row-units : (d : DataflowState) (op first n : ℕ) → first ≡ first_worker_of d.flow op → n ≡ worker_count d.flow op → row_units d.workers first n ≡ units_counted d op
unfolding units_counted workers_of
row-units d op first n first-is whole =
    ap (row_units d.workers first) whole ∙ ap (λ k. row_units d.workers k (worker_count d.flow op)) first-is

-- the seats of so many workers are back
pub record AreBack (board : Board) (first n : ℕ) (old : DataflowState) (seats : List WorkSeat) : Type 0 where
  pub own : All (IsSeatOf board) seats
  pub hands : All (λ seat. (work_view seat).hand ≡ 0) seats
  pub all : length seats ≡ n
  pub counted : sum_by (λ seat. (work_view seat).mine) seats ≡ row_units old.workers first n

-- none is
pub back-none : (board : Board) (first : ℕ) (old : DataflowState) (seats : List WorkSeat) → seats ≡ [] → AreBack board first 0 old seats
back-none board first old seats none = rw none (record {
  own = λ k one less. absurd (omega arith);
  hands = λ k one less. absurd (omega arith);
  all = refl;
  counted = sym (row-none old.workers first);
})

-- a seat that was given back has no unit in hand, and has counted what it had
gave-back : (was : Option WorkSeat) (before seat : WorkSeat) → was ≡ Some before → GivesBack was (Some seat) → ((work_view seat).hand ≡ 0) × ((work_view seat).mine ≡ mine_in was)
gave-back was before seat is gives =
    let it = subst (λ o. GivesBack o (Some seat)) is gives in
    let after = it.0 in
    let same : seat ≡ after = cc in
    (ap (λ s. (work_view s).hand) same ∙ ap (λ (v : View). v.hand) it.2, ap (λ s. (work_view s).mine) same ∙ ap (λ (v : View). v.mine) it.2 ∙ sym (ap mine_in is))

-- one more is
pub back-more : (board : Board) (first n : ℕ) (old : DataflowState) (seats : List WorkSeat) (before seat : WorkSeat) → AreBack board first n old seats
    → (worker_state_at old.workers (first + n)).seat ≡ Some before → IsSeatOf board seat → GivesBack (worker_state_at old.workers (first + n)).seat (Some seat)
    → AreBack board first (n + 1) old (seats ++ seat ∷ [])
back-more board first n old seats before seat back is own gives =
    let gave = gave-back (worker_state_at old.workers (first + n)).seat before seat is gives in
    record {
      own = All-push (IsSeatOf board) seats seat back.own own;
      hands = All-push (λ one. (work_view one).hand ≡ 0) seats seat back.hands gave.0;
      all = let long = length-append seats (seat ∷ []) in let all = back.all in omega arith;
      counted = sum_by_push (λ one. (work_view one).mine) seats seat ∙ ap (λ k. k + (work_view seat).mine) back.counted ∙ ap (λ k. row_units old.workers first n + k) gave.1
          ∙ row-more old.workers first n;
    }

-- once all are, the counter holds them
pub holds-seats : (counter now : CounterState) (op first n : ℕ) (old : DataflowState) → IsCountedOn counter op old → now.board ≡ counter.board
    → AreBack now.board first n old now.seats → first ≡ first_worker_of old.flow op → n ≡ worker_count old.flow op → HoldsSeats now (units_counted old op)
holds-seats counter now op first n old counted same-board back first-is whole = record {
  own = back.own;
  all = back.all ∙ whole ∙ sym counted.workers ∙ ap board_workers (sym same-board);
  hands = back.hands;
  counted = back.counted ∙ row-units old op first n first-is whole;
}

-- ---- one worker more

module _ (op first place : ℕ) (old mid : DataflowState) (before : AreChanged op first place (IsDisarmed first old) old mid) (all : AreAllThere old)
    (first-is : first ≡ first_worker_of old.flow op) (less : place < worker_count old.flow op) where
  -- it has no seat any more
  pub disarmed-next : (new : DataflowState) → new ≡ worker_disarmed (first + place) mid → MovesUnder true mid new (first + place)
      → AreChanged op first (place + 1) (IsDisarmed first old) old new
  disarmed-next new is moves =
      let still = next-still op first place (IsDisarmed first old) old mid before all in
      subst (λ x. AreChanged op first (place + 1) (IsDisarmed first old) old x) (sym is)
      (changed-next op first place (IsDisarmed first old) old mid before all first-is less (disarmed_at (worker_state_at mid.workers (first + place))) (ap disarmed_at still) refl
      (subst (λ x. MovesUnder true mid x (first + place)) is moves))

  -- it had one
  was-seated : (counter : CounterState) → IsCountedOn counter op old → HasSeat counter.board old (first + place)
  was-seated counter counted = counted.seats (first + place) (own-place old op first place first-is less)

  -- its seat is the one that it had
  seat-still : seat_of mid (first + place) ≡ seat_of old (first + place)
  unfolding seat_of
  seat-still = ap (λ (w : WorkerState). w.seat) (next-still op first place (IsDisarmed first old) old mid before all)

  -- of the board
  pub own-next : (counter : CounterState) → IsCountedOn counter op old → (board : Board) → board ≡ counter.board → IsBoardOf (Some board) (seat_of mid (first + place))
  own-next counter counted board same =
      let has = was-seated counter counted in
      subst (λ b. IsBoardOf (Some b) (seat_of mid (first + place))) (sym same) (subst (IsBoardOf (Some counter.board)) (sym (seat-still ∙ has.is)) has.own)

  -- with room in its journal
  pub room-next : (counter : CounterState) → IsCountedOn counter op old → has_room mid (first + place) ≡ true
  unfolding has_room
  room-next counter counted = ap (λ (w : WorkerState). w.reserved) (next-still op first place (IsDisarmed first old) old mid before all) ∙ (was-seated counter counted).room

  -- which is back
  pub back-next : (counter : CounterState) → IsCountedOn counter op old → (board : Board) (seats : List WorkSeat) (seat : WorkSeat) → AreBack board first place old seats
      → IsSeatOf board seat → GivesBack (seat_of mid (first + place)) (Some seat) → AreBack board first (place + 1) old (seats ++ seat ∷ [])
  unfolding seat_of
  back-next counter counted board seats seat back own gives =
      let has = was-seated counter counted in
      back-more board first place old seats has.seat seat back has.is own (subst (λ o. GivesBack o (Some seat)) seat-still gives)
