-- The cells so far are typed.
use Rattle.std.proofs.Common.{◌≡◌, ◌≤◌, ◌+◌, drop, length, take}
use Rattle.amber_rows.specs.Record.{cells_of}
use Rattle.amber_rows.proofs.TypedCells.{after_cells}
use Rattle.amber_cut.specs.Lines.{cut}
use Rattle.amber_cut.specs.Typing.{fields_if}
use Rattle.amber_cut.proofs.typing.retype_line.Given as goal

abbrev pub invariant-columns : goal.invariant-columns
invariant-columns l = record {
  typed : cells_of 1 l.columns (cut l.line) ≡ after_cells (take l.i l.cells.items) (cells_of (l.i + 1) (drop l.i l.columns) (drop l.i (cut l.line)));
  whole : length l.cells.items ≡ length l.columns;
  rest : drop l.i (cut l.line) ≡ fields_if l.more l.rest;
  passed : l.i ≤ length (cut l.line);
}
