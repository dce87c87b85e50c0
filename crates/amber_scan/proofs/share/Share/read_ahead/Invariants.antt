-- The same are left, and no fewer are typed.
use Rattle.std.proofs.Common.{◌≡◌, ◌≤◌, ◌-◌}
use Rattle.amber_scan.proofs.share.Share.read_ahead.Given as goal

abbrev pub invariant-records : goal.invariant-records
invariant-records l = record {
  left : l.self.left ≡ l.fn.self.left;
  columns : l.self.columns ≡ l.fn.self.columns;
  more : l.fn.self.ready ≤ l.self.ready;
}

abbrev pub decreases-records : goal.decreases-records
decreases-records l = l.count - l.self.ready
