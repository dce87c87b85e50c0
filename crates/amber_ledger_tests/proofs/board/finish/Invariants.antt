-- After each worker that has counted all, no unit is in hand.
use Rattle.std.proofs.Common.{◌≡◌, ℕ, ◌<◌, All, slice_index_or}
use Rattle.amber_board.specs.declared.types.WorkSeat.{WorkSeat}
use Rattle.amber_board.specs.Seats.{IsSeatOf, work_view}
use Rattle.amber_ledger_tests.proofs.board.finish.Given as goal

abbrev pub invariant-loop-seat : goal.invariant-loop-seat
invariant-loop-seat l = All (IsSeatOf l.board) l.seats × ((k : ℕ) (d : WorkSeat) → k < l.seat-index → (work_view (slice_index_or l.seats k d)).hand ≡ 0)
