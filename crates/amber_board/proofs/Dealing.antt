-- A seat more that is dealt.
use Rattle.std.proofs.Common.{◌≡◌, ℕ, List, [], ◌∷◌, ◌++◌, length, arith}
use Rattle.std.proofs.lemmas.Grind.{common_steps}
use Rattle.amber_board.specs.declared.types.Board.{Board}
use Rattle.amber_board.specs.declared.types.WorkSeat.{WorkSeat}
use Rattle.amber_board.specs.Moves.{new_seat}
use Rattle.amber_board.specs.Opening.{AreDealt}
use Rattle.amber_board.specs.Seats.{IsSeatOf, work_view}

pub dealt_more : (board : Board) (seats more : List WorkSeat) (seat : WorkSeat) (given : ℕ → ℕ) → more ≡ seats ++ seat ∷ [] → AreDealt board seats given
    → IsSeatOf board seat → work_view seat ≡ new_seat (length seats) (given (length seats)) → AreDealt board more given
dealt_more board seats more seat given is dealt own view = λ k d l. grind (arith, common_steps, dealt)
