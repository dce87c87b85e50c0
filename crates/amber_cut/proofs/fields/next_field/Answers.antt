-- Up to the first comma, or the whole line.
use Rattle.std.proofs.Common.{◌≡◌, ◌<◌, ◌-◌, ◌+◌, ap, arith, drop, length, length-drop, length-take, take}
use Rattle.std.proofs.lemmas.List.{take_all}
use Rattle.amber_cut.specs.Lines.{ends_field, past, until}
use Rattle.amber_cut.proofs.TypedLines.{cut-first, cut-last}
use Rattle.amber_cut.proofs.fields.next_field.Goals as goal

pub returns-then-end-line : goal.returns-then-end-line
returns-then-end-line c =
    let line = c.args.line.now in
    let end = c.field_end-end.result in
    let field : take end line ≡ until ends_field line = c.field_end-end.ensures.field in
    let later : drop (end + 1) line ≡ past ends_field line = c.field_end-end.ensures.later in
    let long : length (until ends_field line) < length line = omega (arith, ap length field, length-take end line, c.if-end-line.true) in
    let whole : take (length line - (end + 1)) (drop (end + 1) line) ≡ drop (end + 1) line = take_all (length line - (end + 1)) (drop (end + 1) line) (omega (arith, length-drop (end + 1) line)) in
    rw (whole, field, later) (cut-first line long)

pub returns-else-end-line : goal.returns-else-end-line
returns-else-end-line c =
    let line = c.args.line.now in
    let end = c.field_end-end.result in
    let field : take end line ≡ until ends_field line = c.field_end-end.ensures.field in
    cut-last line (omega (arith, ap length field, length-take end line, c.if-end-line.false))
