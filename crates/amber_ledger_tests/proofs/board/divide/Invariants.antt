-- The seat stays its board's.
use Rattle.amber_board.specs.Seats.{IsChiefOf}
use Rattle.amber_ledger_tests.proofs.board.divide.Given as goal

abbrev pub invariant-loop-turn : goal.invariant-loop-turn
invariant-loop-turn l = IsChiefOf l.board l.chief
