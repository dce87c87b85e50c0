-- std's test of UTF-8 is the definition's.
use Rattle.std.proofs.Common.{refl}
use Rattle.std.proofs.lemmas.Bool.{false_from_ne_true}
use Rattle.std.proofs.lemmas.Str.{IsUtf8-from_is_utf8, is_utf8-from_IsUtf8}
use Rattle.amber_rows.proofs.reused_rows.put_cell.Goals as goal

pub returns-in_ok-set_text-in-Ok : goal.returns-in_ok-set_text-in-Ok
returns-in_ok-set_text-in-Ok c =
    let same = c.in-Ok.ensures.cases.0 in
    let text = is_utf8-from_IsUtf8 c.args.field.now c.in-Ok.ensures.cases.1 in
    rw (c.in-Text.is, text, c.in_ok-set_text-in-Ok.ensures, same) refl

pub returns-in-Err : goal.returns-in-Err
returns-in-Err c =
    let none = false_from_ne_true _ (λ t. c.in-Err.ensures.cases.0 (IsUtf8-from_is_utf8 c.args.field.now t)) in
    rw (c.in-Text.is, none) refl
