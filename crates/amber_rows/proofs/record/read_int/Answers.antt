-- std's reading of a number is the definition's.
use Rattle.std.proofs.Common.{◌∙◌}
use Rattle.amber_rows.proofs.Numerals.{read_int-none, read_int-parses}
use Rattle.amber_rows.proofs.record.read_int.Goals as goal

pub returns : goal.returns
returns c =
    let parsed = rw c.in-Ok.ensures.cases.0 at c.parse.ensures.value.0 in
    c.ok.ensures.value ∙ read_int-parses c.args.bytes.now c.parse.result parsed

pub returns-in_default-from_utf8 : goal.returns-in_default-from_utf8
returns-in_default-from_utf8 c = read_int-none c.args.bytes.now c.in_default-from_utf8.ensures.cases.0
