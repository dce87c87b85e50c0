-- The operators so far are armed.
use Rattle.std.proofs.Common.{◌≡◌, ◌≤◌, length}
use Rattle.std.specs.Prelude.{vec_capacity}
use Rattle.amber_boards.specs.Boards.{AreLedBy, targets_of}
use Rattle.amber_boards.proofs.OneMoreArmed.{AreArmedTo}
use Rattle.amber_boards.proofs.boards.Boards.arm.Given as goal

abbrev pub invariant-operators : goal.invariant-operators
invariant-operators l = record {
  long : length l.counters.items ≡ l.place;
  room : length l.counts ≤ vec_capacity l.counters;
  led : AreLedBy l.counters.items l.chiefs.items;
  chiefs_room : length l.counts ≤ vec_capacity l.chiefs;
  targets : l.targets.items ≡ targets_of l.counters.items;
  targets_long : length l.targets.items ≡ l.place;
  targets_room : length l.counts ≤ vec_capacity l.targets;
  armed : AreArmedTo l.counts l.counters.items l.fn.dataflow l.dataflow;
}
