-- The operators so far are disarmed, and the boards of the others are there.
use Rattle.std.proofs.Common.{◌≡◌, ℕ, ◌≤◌, length, get_or, None}
use Rattle.amber_boards.specs.Boards.{AreLedBy}
use Rattle.amber_boards.proofs.OneMoreDisarmed.{AreDisarmedTo}
use Rattle.amber_boards.proofs.boards.Boards.disarm.Given as goal

abbrev pub invariant-operators : goal.invariant-operators
invariant-operators l = record {
  left : (k : ℕ) → l.place ≤ k → get_or l.self-inside.counters.items k None ≡ get_or l.fn.self k None;
  long : length l.self-inside.counters.items ≡ length l.fn.self;
  led : AreLedBy l.self-inside.counters.items l.self-inside.chiefs.items;
  disarmed : AreDisarmedTo l.fn.self l.place l.fn.dataflow l.dataflow;
}
