-- The shares so far.
use Rattle.std.proofs.Common.{◌≡◌, ◌<◌, ℕ, get_or, length}
use Rattle.std.specs.Arc.{arc_value}
use Rattle.std.specs.List.{All}
use Rattle.amber_rows.specs.Shares.{share_of}
use Rattle.amber_scan.specs.Shares.{ShareState, scanned_number, scanned_of}
use Rattle.amber_scan.proofs.dealing.deal_checked.Given as goal

abbrev pub invariant-workers : goal.invariant-workers
invariant-workers g l = record {
  one_each : length l.shares.items ≡ l.worker;
  shares : (k : ℕ) (d : ShareState) → k < l.worker → (get_or l.shares.items k d).left ≡ share_of scanned_number l.workers k (scanned_of l.schema (arc_value l.records));
  columns : All (λ share. share.columns ≡ l.schema) l.shares.items;
}
