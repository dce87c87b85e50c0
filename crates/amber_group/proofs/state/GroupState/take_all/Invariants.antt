-- Those so far were taken in, and can be taken out again.
use Rattle.std.proofs.Common.{◌≤◌, ◌+◌, filter, take, vec_capacity, vec_len}
use Rattle.amber_rows.specs.Suits.{suits_of}
use Rattle.amber_group.specs.Feeding.{FeedsEach}
use Rattle.amber_group.specs.Group.{FeedsRows}
use Rattle.amber_group.specs.Undoing.{TakeAllBack}
use Rattle.amber_group.proofs.state.GroupState.take_all.Given as goal

abbrev pub invariant-loop-i : goal.invariant-loop-i
invariant-loop-i l = record {
  fed : l.self.fed ≤ l.fn.self.fed + l.i;
  len : vec_len l.all ≤ l.i;
  slots : l.count ≤ vec_capacity l.all;
  back : TakeAllBack l.all.items l.fn.self l.self;
  feeds : FeedsRows (filter (suits_of l.columns) (take l.i l.rows.items)) l.fn.self l.self;
  each : FeedsEach (filter (suits_of l.columns) (take l.i l.rows.items)) l.fn.self l.self;
}
