-- Of a file from which nothing was read at first, the records read so far were gathered.
use Rattle.std.proofs.Common.{ℕ, List, []}
use Rattle.amber_rows.specs.Reading.{HasRead}
use Rattle.amber_plain.proofs.Records.{IsAt}
use Rattle.amber_plain.proofs.scan.read_records.Given as goal

abbrev pub invariant-records : goal.invariant-records
invariant-records l = (file : List ℕ) → HasRead file l.fn.reader [] → IsAt file l.reader l.number l.op l.schema l.fn.chain l.chain l.refused.items
