-- What the chief has in hand stays.
use Rattle.std.proofs.Common.{◌≡◌}
use Rattle.amber_board.specs.Seats.{IsChiefOf, chief_view}
use Rattle.amber_ledger_tests.proofs.board.watch_all.Given as goal

abbrev pub invariant-loop-worker : goal.invariant-loop-worker
invariant-loop-worker l = IsChiefOf l.board l.chief × ((chief_view l.chief).hand ≡ (chief_view l.initial.chief).hand)
