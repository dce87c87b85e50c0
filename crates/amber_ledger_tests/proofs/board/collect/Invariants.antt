-- The seat stays its board's.
use Rattle.amber_board.specs.Seats.{IsChiefOf}
use Rattle.amber_ledger_tests.proofs.board.collect.Given as goal

abbrev pub invariant-loop-worker : goal.invariant-loop-worker
invariant-loop-worker l = IsChiefOf l.board l.chief
