-- The cells so far are typed, and make up the row or its fault with what the other columns give.
use Rattle.std.proofs.Common.{◌≡◌, ◌+◌, drop, length, take}
use Rattle.csv.specs.Records.{fields_of}
use Rattle.amber_rows.specs.Record.{cells_of, row_of}
use Rattle.amber_rows.proofs.TypedCells.{after_cells}
use Rattle.amber_cut.proofs.file_fields.retype_fields.Given as goal

abbrev pub invariant-columns : goal.invariant-columns
invariant-columns l = record {
  typed : row_of l.columns (take (length l.columns) (drop l.start (fields_of l.store)))
      ≡ after_cells (take l.i l.cells.items) (cells_of (l.i + 1) (drop l.i l.columns) (drop l.i (take (length l.columns) (drop l.start (fields_of l.store)))));
  whole : length l.cells.items ≡ length l.columns;
}
