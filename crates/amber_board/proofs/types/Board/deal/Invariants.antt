use Rattle.std.proofs.Common.{◌≡◌, ◌<◌, ◌≤◌, ◌==◌, if◌then◌else◌, length}
use Rattle.amber_board.specs.Opening.{AreDealt, splits_after}
use Rattle.amber_board.specs.Seats.{chief_view}
use Rattle.amber_board.proofs.types.Board.deal.Given as goal

-- The workers below `number` have their seats, and the chief has its hand until the favoured one has its seat.
abbrev pub invariant-loop-number : goal.invariant-loop-number
invariant-loop-number l = record {
  table : l.chief.seat.table_id ≡ l.initial.chief.seat.table_id;
  made : (chief_view l.chief).made ≡ l.number;
  target : (chief_view l.chief).target ≡ (chief_view l.initial.chief).target;
  seen : (chief_view l.chief).seen ≡ (chief_view l.initial.chief).seen;
  did : (chief_view l.chief).done ≡ splits_after (chief_view l.initial.chief).done l.number;
  hand : l.number ≤ l.favoured → (chief_view l.chief).hand ≡ (chief_view l.initial.chief).hand;
  given : l.favoured < l.number → (chief_view l.chief).hand ≡ 0;
  count : length l.seats.items ≡ l.number;
  seats : AreDealt l.self l.seats.items (λ w. if w == l.favoured then (chief_view l.initial.chief).hand else 0);
}
