-- Those so far were fed.
use Rattle.std.proofs.Common.{◌≤◌, ◌+◌, filter, take}
use Rattle.amber_rows.specs.Suits.{suits_of}
use Rattle.amber_group.specs.Feeding.{FeedsEach}
use Rattle.amber_group.specs.Group.{FeedsRows}
use Rattle.amber_group.proofs.state.GroupState.feed_some.Given as goal

abbrev pub invariant-loop-i : goal.invariant-loop-i
invariant-loop-i l = record {
  fed : l.self.fed ≤ l.fn.self.fed + l.i;
  feeds : FeedsRows (filter (suits_of l.columns) (take l.i l.rows.items)) l.fn.self l.self;
  each : FeedsEach (filter (suits_of l.columns) (take l.i l.rows.items)) l.fn.self l.self;
}
