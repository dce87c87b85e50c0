-- The fields so far are the texts of the first cells.
use Rattle.std.proofs.Common.{◌≡◌, [], map, take}
use Rattle.csv.specs.Records.{fields_of, partial_of}
use Rattle.amber_rows.specs.RowText.{value_text}
use Rattle.amber_rows.proofs.record_writer.fill.Given as goal

abbrev pub invariant-loop-cell : goal.invariant-loop-cell
invariant-loop-cell l = (fields_of l.fields ≡ map value_text (take l.cell-index l.cells)) × (partial_of l.fields ≡ [])
