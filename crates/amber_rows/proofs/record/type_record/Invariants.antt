-- The cells so far, and what the other columns give, make up the row or its fault.
use Rattle.std.proofs.Common.{◌≡◌, ◌+◌, drop}
use Rattle.csv.specs.Records.{fields_of}
use Rattle.amber_rows.specs.Record.{cells_of, row_of}
use Rattle.amber_rows.proofs.TypedCells.{after_cells}
use Rattle.amber_rows.proofs.record.type_record.Given as goal

abbrev pub invariant-loop-i : goal.invariant-loop-i
invariant-loop-i l = row_of l.columns (fields_of l.fields) ≡ after_cells l.cells.items (cells_of (l.i + 1) (drop l.i l.columns) (drop l.i (fields_of l.fields)))
