-- What is counted and what is left in hand are the units of before.
use Rattle.std.proofs.Common.{◌≡◌, ◌+◌}
use Rattle.amber_board.specs.Seats.{IsSeatOf, work_view}
use Rattle.amber_ledger_tests.proofs.seats.count_times.Given as goal

abbrev pub invariant-loop : goal.invariant-loop
invariant-loop l = IsSeatOf l.board l.seat × ((work_view l.seat).hand + l.counter ≡ (work_view l.initial.seat).hand)
