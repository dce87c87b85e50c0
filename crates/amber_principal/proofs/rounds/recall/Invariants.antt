-- The workers so far were swept, where they are not starved.
use Rattle.std.proofs.Common.{◌≡◌, ◌∷◌}
use Rattle.amber_board.specs.Seats.{IsChiefOf, chief_view}
use Rattle.amber_board.specs.declared.view.Step.TheVariants.{Draw}
use Rattle.amber_principal.specs.Rounds.{sweeps_after}
use Rattle.amber_principal.proofs.rounds.recall.Given as goal

abbrev pub invariant-loop-worker : goal.invariant-loop-worker
invariant-loop-worker l = IsChiefOf l.board l.seat × ((chief_view l.seat).seen ≡ (chief_view l.fn.seat).seen)
    × ((chief_view l.seat).done ≡ sweeps_after l.needs (Draw ∷ (chief_view l.fn.seat).done) l.worker)
