-- Workers are given seats, one by one, and room is kept in their journals: what they are then, and where they stand.
use Rattle.std.proofs.Common.{◌≡◌, refl, sym, ap, subst, ◌∙◌, ℕ, ◌+◌, ◌<◌, List, [], ◌∷◌, ◌++◌, length, get_or, set, true, arith, set-set, length-append, length-set}
use Rattle.amber_rows.specs.Topology.{first_worker_of, worker_count}
use Rattle.amber_board.specs.declared.types.Board.{Board}
use Rattle.amber_board.specs.declared.types.WorkSeat.{WorkSeat}
use Rattle.amber_board.specs.declared.view.View.{View}
use Rattle.amber_board.specs.Opening.{AreDealt}
use Rattle.amber_board.specs.Seats.{work_view}
use Rattle.amber_worker.specs.Changes.{armed_at}
use Rattle.amber_worker.specs.WorkerState.{WorkerState}
use Rattle.amber_dataflow.specs.AtWork.{worker_state_at}
use Rattle.amber_dataflow.specs.Dataflow.{AreAllThere, DataflowState, MovesUnder, StandAt, StandsUnder, has_finished, has_room, room_kept, seat_of, worker_armed}
use Rattle.amber_dataflow.proofs.Crews.{here-now}
use Rattle.amber_dataflow.proofs.Seated.{stand-reserved}
use Rattle.amber_boards.specs.Boards.{ArmsOperator, Seating}
use Rattle.amber_boards.proofs.OneByOne.{AreChanged, all-there, changed-next, next-still, next-there, put_at}

-- ---- one worker

module _ (d roomy : DataflowState) (worker : ℕ) (there : worker < length d.workers) (is : roomy ≡ room_kept worker d) where
  -- what it is then
  reserved_now : worker_state_at roomy.workers worker ≡ record (worker_state_at d.workers worker) { reserved = true }
  reserved_now = rw is (here-now d.workers worker (record (worker_state_at d.workers worker) { reserved = true }) there)

  -- room does not change how many they are
  pub roomy-long : length roomy.workers ≡ length d.workers
  roomy-long = rw is (length-set d.workers worker (record (worker_state_at d.workers worker) { reserved = true }))

  -- nor the seat
  pub roomy-seat : seat_of roomy worker ≡ seat_of d worker
  unfolding seat_of
  roomy-seat = ap (λ (w : WorkerState). w.seat) reserved_now

  -- nor whether it has finished
  pub roomy-finished : has_finished roomy worker ≡ has_finished d worker
  unfolding has_finished
  roomy-finished = ap (λ (w : WorkerState). w.finished) reserved_now

  -- it is there then
  pub roomy-room : has_room roomy worker ≡ true
  unfolding has_room
  roomy-room = ap (λ (w : WorkerState). w.reserved) reserved_now

  -- they stand as they stood
  pub roomy-under : StandsUnder true d worker → StandsUnder true roomy worker
  roomy-under stand = (stand.0, stand.1, stand.2, subst (λ x. StandAt stand.0 stand.1 x stand.2) (sym is) (stand-reserved stand.0 stand.1 d stand.2 worker there stand.3), stand.4)

-- a worker has this seat, and room in its journal
abbrev pub seated : WorkSeat → WorkerState → WorkerState
seated seat w = record (armed_at seat w) { reserved = true }

-- so it is put in its place
pub armed-put : (d : DataflowState) (worker : ℕ) (seat : WorkSeat) → worker < length d.workers
    → room_kept worker (worker_armed worker seat d) ≡ put_at d worker (seated seat (worker_state_at d.workers worker))
armed-put d worker seat there =
    let armed = armed_at seat (worker_state_at d.workers worker) in
    ap (λ (w : WorkerState). record d { workers = set (set d.workers worker armed) worker (record w { reserved = true }) }) (here-now d.workers worker armed there)
    ∙ ap (λ ws. record d { workers = ws }) (set-set d.workers worker armed (record armed { reserved = true }))

-- room that was there before makes no difference
room-armed : (d : DataflowState) (worker : ℕ) (seat : WorkSeat) → worker < length d.workers
    → room_kept worker (worker_armed worker seat (room_kept worker d)) ≡ room_kept worker (worker_armed worker seat d)
room-armed d worker seat there =
    let reserved : WorkerState = record (worker_state_at d.workers worker) { reserved = true } in
    let inside : worker < length (set d.workers worker reserved) = rw (length-set d.workers worker reserved) there in
    armed-put (room_kept worker d) worker seat inside
    ∙ ap (λ (w : WorkerState). record d { workers = set (set d.workers worker reserved) worker (seated seat w) }) (here-now d.workers worker reserved there)
    ∙ ap (λ ws. record d { workers = ws }) (set-set d.workers worker reserved (seated seat (worker_state_at d.workers worker)))
    ∙ sym (armed-put d worker seat there)

-- a worker for which room was made, that was armed, and for which room was made again
module _ (d roomy armed new : DataflowState) (worker : ℕ) (seat : WorkSeat) (there : worker < length d.workers)
    (roomy-is : roomy ≡ room_kept worker d) (armed-is : armed ≡ worker_armed worker seat roomy) (new-is : new ≡ room_kept worker armed) where
  -- it is armed, and has room
  pub is-armed : new ≡ room_kept worker (worker_armed worker seat d)
  is-armed = new-is ∙ ap (room_kept worker) (armed-is ∙ ap (worker_armed worker seat) roomy-is) ∙ room-armed d worker seat there

  -- as many workers are there as there were
  pub armed-long : length armed.workers ≡ length d.workers
  armed-long = ap (λ (x : DataflowState). length x.workers) armed-is ∙ length-set roomy.workers worker (armed_at seat (worker_state_at roomy.workers worker))
      ∙ roomy-long d roomy worker there roomy-is

  -- wherever they stood they stand again
  pub moves-armed : MovesUnder true roomy armed worker → MovesUnder true d new worker
  unfolding MovesUnder
  moves-armed moves query start positions stand counted =
      let first = subst (λ x. MovesUnder true x armed worker) roomy-is moves in
      let inside : worker < length armed.workers = rw armed-long there in
      let moved = first query start positions (stand-reserved query start d positions worker there stand) counted in
      (moved.0, subst (λ x. StandAt query start x moved.0) (sym new-is) (stand-reserved query start armed moved.0 worker inside moved.1), moved.2)

-- ---- an operator's workers

-- the worker at a place has the seat of that place
abbrev pub IsSeated : ℕ → List WorkSeat → DataflowState → ℕ → WorkerState → Type 0
IsSeated first dealt old place now = (one : WorkSeat) → now ≡ seated (get_or dealt place one) (worker_state_at old.workers (first + place))

-- the seats are dealt with no unit counted
no-units : (board : Board) (dealt : List WorkSeat) (given : ℕ → ℕ) → AreDealt board dealt given → (place : ℕ) (one : WorkSeat) → place < length dealt
    → (work_view (get_or dealt place one)).mine ≡ 0
no-units board dealt given are place one less = ap (λ (v : View). v.mine) (are place one less).1

-- some seat, of a list that has one
some-seat : (dealt : List WorkSeat) (place : ℕ) → place < length dealt → WorkSeat
some-seat [] place less = absurd (omega arith)
some-seat (seat ∷ more) place less = seat

-- where each has its seat the operator is armed
arms-all : (seating : Seating) (dealt : List WorkSeat) (first n : ℕ) (old new : DataflowState) → AreChanged seating.op first n (IsSeated first dealt old) old new
    → first ≡ first_worker_of old.flow seating.op → n ≡ length dealt → length dealt ≡ worker_count old.flow seating.op
    → AreDealt seating.board dealt seating.given → ArmsOperator seating old new
arms-all seating dealt first n old new changed first-is whole all are = record {
  change = changed.change;
  here = λ place less.
      let inside : place < length dealt = omega arith in
      let one = some-seat dealt place inside in
      let it = are place one inside in
      rw (← first-is) (record {
        seat = get_or dealt place one;
        own = it.0;
        none = no-units seating.board dealt seating.given are place one inside;
        hand_is = ap (λ (v : View). v.hand) it.1;
        is = changed.here place (omega arith) one;
      });
}

pub arms-operator : (op : ℕ) (dealt : List WorkSeat) (first n : ℕ) (old new : DataflowState) → AreChanged op first n (IsSeated first dealt old) old new
    → first ≡ first_worker_of old.flow op → n ≡ length dealt → length dealt ≡ worker_count old.flow op
    → (seating : Seating) → seating.op ≡ op → AreDealt seating.board dealt seating.given → ArmsOperator seating old new
arms-operator op dealt first n old new changed first-is whole all seating same are =
    arms-all seating dealt first n old new
    (subst (λ o. AreChanged o first n (IsSeated first dealt old) old new) (sym same) changed)
    (subst (λ o. first ≡ first_worker_of old.flow o) (sym same) first-is) whole
    (subst (λ o. length dealt ≡ worker_count old.flow o) (sym same) all) are

-- a seat stands at this place among those that are dealt
pub record IsNextSeat (dealt : List WorkSeat) (place : ℕ) (seat : WorkSeat) : Type 0 where
  pub less : place < length dealt
  pub is : (one : WorkSeat) → get_or dealt place one ≡ seat

-- the seat that stands after these
seat-after : (front back : List WorkSeat) (seat one : WorkSeat) → get_or (front ++ seat ∷ back) (length front) one ≡ seat
seat-after [] back seat one = refl
seat-after (x ∷ front) back seat one = seat-after front back seat one

-- it is the one that comes after those that were given
pub next-seat : (given left back dealt : List WorkSeat) (seat : WorkSeat) (place : ℕ)
    → given ++ left ≡ dealt → left ≡ seat ∷ back → place ≡ length given → IsNextSeat dealt place seat
next-seat given left back dealt seat place all step at =
    let whole : given ++ seat ∷ back ≡ dealt = ap (λ xs. given ++ xs) (sym step) ∙ all in
    record {
      less = omega (arith, at, ap length whole, length-append given (seat ∷ back));
      is = λ one. subst (λ xs. get_or xs place one ≡ seat) whole
          (subst (λ n. get_or (given ++ seat ∷ back) n one ≡ seat) (sym at) (seat-after given back seat one));
    }

-- one more worker has its seat
pub seated-next : (op first place : ℕ) (dealt : List WorkSeat) (old mid new : DataflowState) (seat : WorkSeat) → AreChanged op first place (IsSeated first dealt old) old mid
    → AreAllThere old → first ≡ first_worker_of old.flow op → length dealt ≡ worker_count old.flow op → IsNextSeat dealt place seat
    → new ≡ room_kept (first + place) (worker_armed (first + place) seat mid) → MovesUnder true mid new (first + place)
    → AreChanged op first (place + 1) (IsSeated first dealt old) old new
seated-next op first place dealt old mid new seat before all first-is whole next new-is moves =
    let at-next = next.less in
    let less : place < worker_count old.flow op = omega arith in
    let there = next-there op first place (IsSeated first dealt old) old mid before all first-is less in
    let still = next-still op first place (IsSeated first dealt old) old mid before all in
    let inside : first + place < length mid.workers = rw (all-there op first place (IsSeated first dealt old) old mid before all) there in
    let now = seated seat (worker_state_at mid.workers (first + place)) in
    let is : new ≡ put_at mid (first + place) now = new-is ∙ armed-put mid (first + place) seat inside in
    subst (λ x. AreChanged op first (place + 1) (IsSeated first dealt old) old x) (sym is)
    (changed-next op first place (IsSeated first dealt old) old mid before all first-is less now
    (λ one. ap (λ s. seated s (worker_state_at mid.workers (first + place))) (sym (next.is one)) ∙ ap (seated (get_or dealt place one)) still)
    refl (subst (λ x. MovesUnder true mid x (first + place)) is moves))
