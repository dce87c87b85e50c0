-- Workers that were dealt, driven and put back have made turns.
use Rattle.std.proofs.Common.{◌≡◌, refl, ap, subst, ◌∙◌, ℕ, ◌<◌, List, [], ◌∷◌, All, length, slice_index, slice_index_or, Option, None, Some, Bor, if◌then◌else◌, arith}
use Rattle.std.proofs.lemmas.Bool.{eq-eqb}
use Rattle.std.proofs.lemmas.List.Elements.{All-get_or}
use Rattle.amber_board.specs.declared.types.Board.{Board}
use Rattle.amber_boards.specs.Boards.{CounterState}
use Rattle.amber_worker.specs.Counting.{IsBoardOf}
use Rattle.amber_worker.specs.WorkerState.{WorkerState}
use Rattle.amber_dataflow.specs.AtWork.{worker_state_at}
use Rattle.amber_home.specs.Lent.{board_of}
use Rattle.amber_leg.specs.Dealing.{AreBoardsOf, AreDealtOut, AreOf, HaveDriven, HaveNotFailed}
use Rattle.amber_leg.specs.Driving.{board_for, worker_placed}
use Rattle.amber_leg.specs.Slices.{HasCounted, HasTurnedSo}
use Rattle.amber_leg.specs.declared.driver.Driver.{Driver}

module _ (owners : List ℕ) (turns : ℕ) (boards : List (Option CounterState)) (found : List (Option (Bor Board))) (old new : List WorkerState) (dealt driven : List Driver)
    (deals : AreDealtOut owners old dealt) (drove : HaveDriven turns found dealt driven) (none : HaveNotFailed driven) (of : AreOf owners driven new) (known : AreBoardsOf boards old found)
    (long : length new ≡ length old) (all : length owners ≡ length old) (within : All (λ owner. owner < length dealt) owners) where
  by : (d : Driver) → (worker : ℕ) → worker < length old
      → HasCounted turns (worker_state_at old worker) (worker_state_at new worker) × IsBoardOf (board_of boards (worker_state_at old worker).op) (worker_state_at new worker).seat
  by d worker inside =
      let driver = slice_index owners worker in
      let there : driver < length dealt = All-get_or (λ owner. owner < length dealt) owners worker 0 (rw all inside) within in
      let one = (drove.each driver d there (none driver d (omega (arith, drove.all)))).each worker in
      let was : worker_placed (slice_index_or dealt driver d) worker ≡ Some (worker_state_at old worker) =
      deals.each driver worker d there inside ∙ ap (λ b. if b then Some (worker_state_at old worker) else None) (eq-eqb driver driver refl) in
      let is : worker_placed (slice_index_or driven driver d) worker ≡ Some (worker_state_at new worker) =
      of worker d (omega (arith, long)) in
      let both : HasTurnedSo turns (board_for found worker) (Some (worker_state_at old worker)) (Some (worker_state_at new worker)) =
      subst (λ x. HasTurnedSo turns (board_for found worker) x (Some (worker_state_at new worker))) was
      (subst (λ y. HasTurnedSo turns (board_for found worker) (worker_placed (slice_index_or dealt driver d) worker) y) is one) in
      (both.0, subst (λ board. IsBoardOf board (worker_state_at new worker).seat) (known.each worker inside) both.1)

pub crew-turned : (owners : List ℕ) (turns : ℕ) (boards : List (Option CounterState)) (found : List (Option (Bor Board))) (old new : List WorkerState) (dealt driven : List Driver)
    → AreDealtOut owners old dealt → HaveDriven turns found dealt driven → HaveNotFailed driven → AreOf owners driven new → AreBoardsOf boards old found → length new ≡ length old → length owners ≡ length old → All (λ owner. owner < length dealt) owners
    → (worker : ℕ) → worker < length old
    → HasCounted turns (worker_state_at old worker) (worker_state_at new worker) × IsBoardOf (board_of boards (worker_state_at old worker).op) (worker_state_at new worker).seat
crew-turned owners turns boards found old new [] driven deals drove none of known long all within worker inside =
    absurd (omega (arith, All-get_or (λ owner. owner < 0) owners worker 0 (rw all inside) within))
crew-turned owners turns boards found old new (d ∷ dealt) driven deals drove none of known long all within worker inside =
    by owners turns boards found old new (d ∷ dealt) driven deals drove none of known long all within d worker inside
