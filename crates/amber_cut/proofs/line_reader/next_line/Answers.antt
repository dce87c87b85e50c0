-- A line with bytes is the next one, and an empty one is passed over.
use Rattle.std.proofs.Common.{◌≡◌, ◌≢◌, ◌∙◌, arith, length, sym}
use Rattle.std.proofs.lemmas.Bool.{eqb-false, eqb-true}
use Rattle.amber_cut.proofs.Places.{lines-blank, lines-line, lines-nothing}
use Rattle.amber_cut.proofs.line_reader.next_line.Goals as goal

pub returns-then-not-is_empty : goal.returns-then-not-is_empty
returns-then-not-is_empty c =
    let rest = c.lines.rest.now in
    let line = c.first_line.result.0.now in
    let later = c.first_line.result.1.now in
    let some : length line ≢ 0 = eqb-false (length line) 0 (sym c.is_empty-in-lines.ensures ∙ c.if-not-is_empty.true) in
    c.lines.invariant ∙ lines-line rest line later c.first_line.ensures.line c.first_line.ensures.later (omega (arith, some))

pub lines-preserved : goal.lines-preserved
lines-preserved c =
    let rest = c.lines.rest.now in
    let line = c.first_line.result.0.now in
    let later = c.first_line.result.1.now in
    let none : length line ≡ 0 = eqb-true (length line) 0 (sym c.is_empty-in-lines.ensures ∙ c.if-not-is_empty.false) in
    c.lines.invariant ∙ lines-blank rest line later c.first_line.ensures.line c.first_line.ensures.later none

pub returns : goal.returns
returns c =
    let rest = c.lines.rest.now in
    let none : length rest ≡ 0 = eqb-true (length rest) 0 (sym c.is_empty.ensures ∙ c.lines-test.false) in
    c.lines.invariant ∙ lines-nothing rest none
