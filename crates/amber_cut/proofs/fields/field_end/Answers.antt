-- The first comma, or none.
use Rattle.std.proofs.Common.{◌≡◌, ◌+◌, ◌∙◌, add-one, arith, eq-eqb, get_or, length, true}
use Rattle.std.proofs.lemmas.List.{drop_all, take_all}
use Rattle.amber_cut.specs.Lines.{ends_field}
use Rattle.amber_cut.proofs.Places.{parts-at, parts-none}
use Rattle.amber_cut.proofs.fields.field_end.Goals as goal

pub returns-then-line-end-eq44-clause-field : goal.returns-then-line-end-eq44-clause-field
returns-then-line-end-eq44-clause-field c =
    let line = c.args.line.now in
    let comma : ends_field (get_or line c.bytes.end 0) ≡ true = eq-eqb _ 44 c.if-line-end-eq44.true in
    (parts-at ends_field line c.bytes.end c.bytes-test.true c.bytes.invariant comma).0

pub returns-then-line-end-eq44-clause-later : goal.returns-then-line-end-eq44-clause-later
returns-then-line-end-eq44-clause-later c =
    let line = c.args.line.now in
    let comma : ends_field (get_or line c.bytes.end 0) ≡ true = eq-eqb _ 44 c.if-line-end-eq44.true in
    rw add-one (parts-at ends_field line c.bytes.end c.bytes-test.true c.bytes.invariant comma).1

pub returns-clause-field : goal.returns-clause-field
returns-clause-field c =
    let line = c.args.line.now in
    let none = parts-none ends_field line (λ j l. c.bytes.invariant j (omega (arith, l, c.bytes-test.false))) in
    take_all (length line) line (omega arith) ∙ none.0

pub returns-clause-later : goal.returns-clause-later
returns-clause-later c =
    let line = c.args.line.now in
    let none = parts-none ends_field line (λ j l. c.bytes.invariant j (omega (arith, l, c.bytes-test.false))) in
    drop_all (length line + 1) line (omega arith) ∙ none.1
