-- The cells so far are those of the columns so far.
use Rattle.std.proofs.Common.{◌≡◌, length, take}
use Rattle.std.specs.List.{filter_map}
use Rattle.amber_rows.specs.Lists.{nth}
use Rattle.amber_rows.proofs.reused_rows.pick_over.Given as goal

abbrev pub invariant-loop-i : goal.invariant-loop-i
invariant-loop-i l = record {
  picked : take l.i l.room.items ≡ filter_map (nth l.row) (take l.i l.numbers);
  whole : length l.room.items ≡ length l.numbers;
}
