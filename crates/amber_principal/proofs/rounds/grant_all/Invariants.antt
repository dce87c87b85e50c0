-- The workers so far got their shares, and those of the others are in hand.
use Rattle.std.proofs.Common.{◌≡◌, drop}
use Rattle.std.specs.Prelude.{sum}
use Rattle.amber_board.specs.Seats.{IsChiefOf, chief_view}
use Rattle.amber_principal.specs.Rounds.{grants_after}
use Rattle.amber_principal.proofs.rounds.grant_all.Given as goal

abbrev pub invariant-loop-worker : goal.invariant-loop-worker
invariant-loop-worker l = IsChiefOf l.board l.seat × ((chief_view l.seat).seen ≡ (chief_view l.fn.seat).seen)
    × (sum (drop l.worker l.shares) ≡ (chief_view l.seat).hand)
    × ((chief_view l.seat).done ≡ grants_after l.shares (chief_view l.fn.seat).done l.worker)
