-- The cells so far are typed, and make up the row or its fault with what the other columns give.
use Rattle.std.proofs.Common.{◌≡◌, ◌+◌, drop, length, take}
use Rattle.csv.specs.Records.{fields_of}
use Rattle.amber_rows.specs.Record.{cells_of, row_of}
use Rattle.amber_rows.proofs.TypedCells.{after_cells}
use Rattle.amber_rows.proofs.reused_rows.retype.Given as goal

abbrev pub invariant-loop-i : goal.invariant-loop-i
invariant-loop-i l = record {
  typed : row_of l.columns (fields_of l.fields) ≡ after_cells (take l.i l.cells.items) (cells_of (l.i + 1) (drop l.i l.columns) (drop l.i (fields_of l.fields)));
  whole : length l.cells.items ≡ length l.columns;
}
