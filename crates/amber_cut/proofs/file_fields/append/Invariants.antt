-- The fields so far were appended.
use Rattle.std.proofs.Common.{◌≡◌, ◌++◌, [], take}
use Rattle.csv.specs.Records.{fields_of, partial_of}
use Rattle.amber_cut.proofs.file_fields.append.Given as goal

abbrev pub invariant-fields : goal.invariant-fields
invariant-fields l = record {
  fields : fields_of l.store ≡ fields_of l.fn.store ++ take l.i (fields_of l.fields);
  partial : partial_of l.store ≡ [];
}
