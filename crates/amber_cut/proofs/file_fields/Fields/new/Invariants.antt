-- The records so far were read, and they are the pieces of the store.
use Rattle.std.proofs.Common.{◌≡◌, [], length}
use Rattle.csv.specs.Records.{Rising, fields_of, last_end, partial_of}
use Rattle.amber_rows.specs.Reading.{HasRead}
use Rattle.amber_cut.specs.Pieces.{pieces_from}
use Rattle.amber_cut.proofs.file_fields.Fields.new.Given as goal

abbrev pub invariant-records : goal.invariant-records
invariant-records l = record {
  read : HasRead l.file l.reader (pieces_from 0 l.ends.items (fields_of l.store));
  rising : Rising 0 l.ends.items (length (fields_of l.store));
  last : last_end 0 l.ends.items ≡ length (fields_of l.store);
  partial : partial_of l.store ≡ [];
}
