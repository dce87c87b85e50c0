-- Of a file of which nothing was read at first, the records of the lines read so far were gathered.
use Rattle.std.proofs.Common.{◌≡◌, ℕ, List, map}
use Rattle.amber_cut.specs.Lines.{cut}
use Rattle.amber_rows.specs.Record.{file_records}
use Rattle.amber_plain.proofs.LineRecords.{IsAtLine}
use Rattle.amber_plain.proofs.scan.read_lines.Given as goal

abbrev pub invariant-records : goal.invariant-records
invariant-records l = (file : List ℕ) → map cut l.fn.reader ≡ file_records file → IsAtLine file l.reader l.number l.op l.schema l.fn.chain l.chain l.refused.items
