-- The writer has written the text and the records of the first rows.
use Rattle.std.proofs.Common.{◌++◌, take}
use Rattle.amber_rows.specs.RowText.{HasWritten, rows_text_of}
use Rattle.amber_rows.proofs.record_writer.append_rows.Given as goal

abbrev pub invariant-loop-place : goal.invariant-loop-place
invariant-loop-place l = HasWritten (l.fn.text.items ++ rows_text_of (take l.place l.rows)) l.writer
