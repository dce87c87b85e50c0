-- The seat is the only one of its board.
use Rattle.std.proofs.Common.{◌≡◌, List, All, Option, length, ap, arith, get_or, subst}
use Rattle.std.specs.Option.{IfSome}
use Rattle.std.proofs.lemmas.List.Elements.{All-pop}
use Rattle.amber_board.specs.Moves.{new_seat}
use Rattle.amber_board.specs.Opening.{AreDealt}
use Rattle.amber_board.specs.Seats.{IsSeatOf, work_view}
use Rattle.amber_board.specs.declared.types.Board.{Board}
use Rattle.amber_board.specs.declared.types.WorkSeat.{WorkSeat}
use Rattle.amber_board.specs.declared.view.View.{View}
use Rattle.amber_worker_tests.proofs.counted.board_of.Goals as goal

-- the seat of the first worker, which counted nothing and has nothing in hand
abbrev IsFirst : Board → WorkSeat → Type 0
IsFirst board seat = IsSeatOf board seat × (work_view seat ≡ new_seat 0 0)

-- where one seat was dealt it is that one
all-first : (board : Board) (seats : List WorkSeat) → length seats ≡ 1 → AreDealt board seats (λ _. 0) → All (IsFirst board) seats
all-first board seats one dealt k d less =
    let first : k ≡ 0 = omega arith in
    subst (λ n. IsSeatOf board (get_or seats k d) × (work_view (get_or seats k d) ≡ new_seat n 0)) first (dealt k d less)

-- the seat at hand
here : (c : goal.After-drop-chief) → IsFirst c.in_ok-board.board c.in-Some.seat
here c =
    let board = c.in_ok-board.board in
    let all : All (IsFirst board) c.in_ok-board.seats.items = all-first board c.in_ok-board.seats.items c.in_ok-board.ensures.all c.in_ok-board.ensures.seats in
    subst (λ (r : Option WorkSeat). IfSome r (IsFirst board)) c.in-Some.is (All-pop (IsFirst board) _ _ _ c.pop.ensures.items all).1

pub returns-in-Some-clause-own : goal.returns-in-Some-clause-own
returns-in-Some-clause-own c = (here c).0

pub returns-in-Some-clause-none : goal.returns-in-Some-clause-none
returns-in-Some-clause-none c = ap (λ (v : View). v.hand) (here c).1

pub returns-in-Some-clause-new : goal.returns-in-Some-clause-new
returns-in-Some-clause-new c = ap (λ (v : View). v.mine) (here c).1
