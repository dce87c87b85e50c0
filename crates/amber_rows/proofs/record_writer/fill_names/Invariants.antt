-- The fields so far are the names of the first columns.
use Rattle.std.proofs.Common.{◌≡◌, [], take}
use Rattle.csv.specs.Records.{fields_of, partial_of}
use Rattle.amber_rows.specs.Columns.{names_of}
use Rattle.amber_rows.proofs.record_writer.fill_names.Given as goal

abbrev pub invariant-loop-column : goal.invariant-loop-column
invariant-loop-column l = (fields_of l.fields ≡ names_of (take l.column-index l.columns)) × (partial_of l.fields ≡ [])
