-- The fields and names that are left decide.
use Rattle.std.proofs.Common.{◌≡◌, drop, length, bytes_eq}
use Rattle.std.specs.Cmp.Lexicographic.{pointwise}
use Rattle.csv.specs.Records.{fields_of}
use Rattle.amber_rows.specs.Columns.{names_of}
use Rattle.amber_rows.proofs.header.are_names.Given as goal

abbrev pub invariant-loop-i : goal.invariant-loop-i
invariant-loop-i l = record {
  same : length (fields_of l.fields) ≡ length l.columns;
  left : pointwise bytes_eq (fields_of l.fields) (names_of l.schema) ≡ pointwise bytes_eq (drop l.i (fields_of l.fields)) (drop l.i (names_of l.schema));
}
