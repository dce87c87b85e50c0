-- Turns of workers at places.
use Rattle.std.proofs.Common.{ℕ, ◌+◌, ◌≤◌, Option, None, Some, arith}
use Rattle.amber_board.specs.declared.types.Board.{Board}
use Rattle.amber_worker.specs.WorkerState.{WorkerState}
use Rattle.amber_leg.specs.Slices.{HasTurnedSo, MayTurn}
use Rattle.amber_leg.proofs.Sliced.{counted-more, counted-same, counted-then}

-- so many turns, and then so many more
pub turned-then : (m n : ℕ) (board : Option Board) (x y z : Option WorkerState) → HasTurnedSo m board x y → HasTurnedSo n board y z → HasTurnedSo (m + n) board x z
turned-then m n board None None None one two = tt
turned-then m n board None None (Some z) one two = absurd two
turned-then m n board None (Some y) z one two = absurd one
turned-then m n board (Some x) None z one two = absurd one
turned-then m n board (Some x) (Some y) None one two = absurd two
turned-then m n board (Some x) (Some y) (Some z) one two = (counted-then m n x y z one.0 two.0, two.1)

pub turned-more : (m n : ℕ) (board : Option Board) (x y : Option WorkerState) → m ≤ n → (1 ≤ n → 1 ≤ m) → HasTurnedSo m board x y → HasTurnedSo n board x y
turned-more m n board None None within some turned = tt
turned-more m n board None (Some y) within some turned = absurd turned
turned-more m n board (Some x) None within some turned = absurd turned
turned-more m n board (Some x) (Some y) within some turned = (counted-more m n x y within some turned.0, turned.1)

-- none
pub turned-same : (all : ℕ) (board : Option Board) (x : Option WorkerState) → MayTurn all board x → HasTurnedSo 0 board x x
turned-same all board None may = tt
turned-same all board (Some x) may = (counted-same x, may.1)

-- after so many turns there may be as many as are left
pub may-still : (all made next : ℕ) (board : Option Board) (x y : Option WorkerState) → made + next ≤ all → MayTurn all board x → HasTurnedSo made board x y → MayTurn next board y
may-still all made next board x None within may turned = tt
may-still all made next board None (Some y) within may turned = absurd turned
may-still all made next board (Some x) (Some y) within may turned = (
  (let few = may.0 in let steps = turned.0.makes.steps in omega arith),
  turned.1,
  (let fits = may.2 in let counted = turned.0.within in omega arith),
)
