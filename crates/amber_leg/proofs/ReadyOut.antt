-- Drivers may drive the workers that were dealt to them.
use Rattle.std.proofs.Common.{ℕ, ◌==◌, ◌<◌, List, Option, None, Some, Bor, All, Bool, true, false, sym, ◌∙◌, subst, length, slice_index, slice_index_or, inl, inr, arith, if◌then◌else◌}
use Rattle.std.proofs.Math.ListN.{get_or-eq_default}
use Rattle.std.proofs.lemmas.Bool.{cases_lt}
use Rattle.amber_board.specs.declared.types.Board.{Board}
use Rattle.amber_dataflow.specs.AtWork.{worker_state_at}
use Rattle.amber_home.specs.declared.crew.Crew.{Crew}
use Rattle.amber_leg.specs.Dealing.{AreBoardsOf, AreDealtOut, AreReadyFor}
use Rattle.amber_leg.specs.Driving.{MayDrive, board_for, worker_placed}
use Rattle.amber_leg.specs.Slices.{MayTurn}
use Rattle.amber_leg.specs.declared.driver.Driver.{Driver}

module _ (turns : ℕ) (owners : List ℕ) (crew : Crew) (found : List (Option (Bor Board))) (drivers : List Driver) (dealt : AreDealtOut owners crew.workers.items drivers)
    (boards : AreBoardsOf crew.boards crew.workers.items found) (ready : AreReadyFor turns crew) where
  may-one : (place : ℕ) → place < length crew.workers.items → (b : Bool) → MayTurn turns (board_for found place) (if b then Some (worker_state_at crew.workers.items place) else None)
  may-one place inside true =
      subst (λ board. MayTurn turns board (Some (worker_state_at crew.workers.items place))) (sym (boards.each place inside)) (ready.each place inside)
  may-one place inside false = tt

  may-each : (driver : ℕ) (d : Driver) → driver < length drivers → (place : ℕ) → MayTurn turns (board_for found place) (worker_placed (slice_index_or drivers driver d) place)
  may-each driver d there place = elim (cases_lt place (length crew.workers.items)) [
    | inl inside ↦
        subst (MayTurn turns (board_for found place)) (sym (dealt.each driver place d there inside)) (may-one place inside (slice_index owners place == driver))
    | inr past ↦
        subst (MayTurn turns (board_for found place))
        (sym (get_or-eq_default (slice_index_or drivers driver d).workers.items None (let all = dealt.all driver d there in let past = past in omega (arith, all)))) tt
  ]

  pub dealt-may : All (MayDrive turns found) drivers
  dealt-may = λ driver d there. record { all = dealt.all driver d there ∙ sym boards.all; each = may-each driver d there }
