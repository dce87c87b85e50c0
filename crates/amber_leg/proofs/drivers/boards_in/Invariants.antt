-- So many boards were found.
use Rattle.std.proofs.Common.{◌≡◌, ◌<◌, ◌≤◌, ℕ, None, length, option_map, slice_index_or, vec_capacity}
use Rattle.amber_leg.specs.Driving.{board_for}
use Rattle.amber_leg.proofs.drivers.boards_in.Given as goal

abbrev pub invariant-operators : goal.invariant-operators
invariant-operators l = record {
  long : length l.found.items ≡ l.place;
  room : l.operators ≤ vec_capacity l.found;
  each : (op : ℕ) → op < l.place → board_for l.found.items op ≡ option_map (λ one. one.board) (slice_index_or l.boards op None);
}
