-- The workers so far were watched.
use Rattle.std.proofs.Common.{◌≡◌}
use Rattle.amber_board.specs.Seats.{IsChiefOf, chief_view}
use Rattle.amber_principal.specs.Rounds.{watches_after}
use Rattle.amber_principal.proofs.rounds.watch_all.Given as goal

abbrev pub invariant-loop-worker : goal.invariant-loop-worker
invariant-loop-worker l = IsChiefOf l.board l.seat × ((chief_view l.seat).hand ≡ (chief_view l.fn.seat).hand)
    × ((chief_view l.seat).done ≡ watches_after (chief_view l.fn.seat).done l.worker)
