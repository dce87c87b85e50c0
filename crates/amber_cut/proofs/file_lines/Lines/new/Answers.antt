-- What stands after a byte order mark are the lines of the file, which has no quote.
use Rattle.std.proofs.Common.{◌≡◌, ◌∙◌, ap, drop, map, sym}
use Rattle.csv.specs.Reading.{strip_bom}
use Rattle.amber_cut.specs.Lines.{HasQuote, cut, line_at}
use Rattle.amber_cut.proofs.LineRecords.{file-lines}
use Rattle.amber_cut.proofs.file_lines.Lines.new.Goals as goal

pub returns-clause-records : goal.returns-clause-records
returns-clause-records g c =
    let file = c.args.file.now in
    let from = c.mark_length.result in
    let none : ¬ HasQuote file = λ quote. let found = (rw c.get-bytes.ensures at c.has_quote.ensures).1 quote in cc in
    let rest : drop from file ≡ strip_bom file = rw c.get-bytes.ensures at c.mark_length.ensures.rest in
    let starts = rw (c.get-bytes.ensures, rest) at c.in_ok-starts.ensures.lines in
    ap (λ bytes. map cut (map (line_at bytes) c.in_ok-starts.starts.items)) c.in_ok-shared.ensures.cases ∙ ap (map cut) starts ∙ sym (file-lines file none)
