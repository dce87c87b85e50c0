-- One cell a turn.
use Rattle.std.proofs.Common.{◌≡◌, length}
use Rattle.amber_cut.proofs.typing.blank_cells.Given as goal

abbrev pub invariant-cells : goal.invariant-cells
invariant-cells l = length l.cells.items ≡ l.counter
