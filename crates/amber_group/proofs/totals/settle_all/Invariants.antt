-- The first ones have the row, the others are as they were, and so are their changes.
use Rattle.std.proofs.Common.{◌≡◌, ◌+◌, ℕ, length, take}
use Rattle.amber_group.specs.Steps.{AreWithin}
use Rattle.amber_group.proofs.Settling.{Settled}
use Rattle.amber_group.proofs.totals.settle_all.Given as goal

abbrev pub invariant-loop-i : goal.invariant-loop-i
invariant-loop-i l = record {
  count : length l.runnings ≡ length l.fn.runnings;
  room : length l.changes.items ≡ length l.fn.runnings;
  with_best : Settled l.row l.i l.fn.runnings l.runnings l.changes.items;
  within : (rows : ℕ) → AreWithin rows l.fn.runnings → AreWithin (rows + 1) (take l.i l.runnings);
}
