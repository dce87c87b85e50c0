-- What stands after a byte order mark are the lines of the file, which has no quote.
use Rattle.std.proofs.Common.{◌≡◌, ◌∙◌, ◌-◌, ap, arith, drop, length, length-drop, map, sym, take}
use Rattle.std.proofs.lemmas.List.{take_all}
use Rattle.csv.specs.Reading.{strip_bom}
use Rattle.amber_cut.specs.Lines.{HasQuote, cut, lines}
use Rattle.amber_cut.proofs.LineRecords.{file-lines}
use Rattle.amber_cut.proofs.line_reader.LineReader.open.Goals as goal

pub returns-clause-records : goal.returns-clause-records
returns-clause-records c =
    let file = c.args.file.now in
    let from = c.mark_length.result in
    let none : ¬ HasQuote file = λ quote. let found = c.has_quote.ensures.1 quote in cc in
    let rest : take (length file - from) (drop from file) ≡ strip_bom file = take_all (length file - from) (drop from file) (omega (arith, length-drop from file)) ∙ c.mark_length.ensures.rest in
    ap (λ xs. map cut (lines xs)) rest ∙ sym (file-lines file none)
