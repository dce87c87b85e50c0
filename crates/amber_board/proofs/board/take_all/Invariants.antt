use Rattle.std.proofs.Common.{◌≡◌, ◌*◌, ◌^◌, ◌≤◌, length, sum_by}
use Rattle.amber_board.specs.declared.view.Role.TheVariants.{Chief}
use Rattle.amber_board.specs.Seats.{work_view}
use Rattle.amber_board.proofs.board.take_all.Given as goal

-- The seats that were taken in are in the chief's view, and their counts are added up.
abbrev pub invariant-loop-worker : goal.invariant-loop-worker
invariant-loop-worker l = record {
  table : l.chief.table_id ≡ l.initial.chief.table_id;
  role : l.chief.me.0.role ≡ Chief;
  target : l.chief.me.0.target ≡ l.initial.chief.me.0.target;
  made : l.chief.me.0.made ≡ l.initial.chief.me.0.made;
  seen : l.chief.me.0.seen ≡ l.initial.chief.me.0.seen;
  kept : sum_by (λ k. k.count) l.chief.me.0.kept ≡ l.counted;
  number : length l.chief.me.0.kept ≡ length l.yielded;
  counted : l.counted ≡ sum_by (λ seat. (work_view seat).mine) l.yielded;
  most : l.counted ≤ length l.yielded * 2 ^ 40;
}
