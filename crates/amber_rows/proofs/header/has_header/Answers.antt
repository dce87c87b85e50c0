-- The first record that is read is the first of the file.
use Rattle.std.proofs.Common.{[], sym, ◌∙◌, rules}
use Rattle.csv.specs.Records.{fields_of}
use Rattle.amber_rows.proofs.Headers.{header-none, header-some}
use Rattle.amber_rows.proofs.header.has_header.Goals as goal

pub returns-then-not-found : goal.returns-then-not-found
returns-then-not-found c =
    sym (header-none c.args.schema.now c.args.file.now (c.in_ok-found.ensures.all c.args.file.now [] c.open-reader.ensures (search rules)))

pub returns : goal.returns
returns c =
    c.are_names.ensures
    ∙ sym (header-some c.args.schema.now c.args.file.now c.next.new.self (fields_of c.next.new.fields) (c.in_ok-found.ensures.more c.args.file.now [] c.open-reader.ensures (search rules)))
