-- The seat stays its board's.
use Rattle.amber_board.specs.Seats.{IsSeatOf}
use Rattle.amber_ledger_tests.proofs.board.labour.Given as goal

abbrev pub invariant-loop-turn : goal.invariant-loop-turn
invariant-loop-turn l = IsSeatOf l.board l.seat
