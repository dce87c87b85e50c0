-- Digit by digit.
use Rattle.std.proofs.Common.{◌≡◌, ◌∙◌, ◌+◌, ◌*◌, Some, ap, arith, length, sym, take, w64}
use Rattle.std.proofs.lemmas.Int.{to_z_pos}
use Rattle.std.proofs.lemmas.Bool.{eqb-false}
use Rattle.std.proofs.lemmas.List.{take_all}
use Rattle.amber_rows.proofs.Numerals.{read-all, read-more, read-none}
use Rattle.amber_rows.proofs.record.few_digits.Goals as goal

pub loop-byte-init : goal.loop-byte-init
loop-byte-init c = read-none

pub loop-byte-preserved : goal.loop-byte-preserved
loop-byte-preserved c =
    read-more c.args.bytes.now c.loop-byte.byte-index c.loop-byte.number _ c.loop-byte-test.true c.loop-byte.invariant c.if-number-gt-MOST_READ.false c.if-digit-lt48.false c.if-digit-gt57.false
    (ap (λ digit. c.loop-byte.number * 10 + digit) c.from.ensures)

pub returns : goal.returns
returns c =
    let bytes = c.args.bytes.now in
    let whole : take c.loop-byte.byte-index bytes ≡ bytes = take_all c.loop-byte.byte-index bytes c.loop-byte-test.false in
    let some : length bytes ≡ 0 → ⊥ = λ e. eqb-false (length bytes) 0 (sym c.is_empty.ensures ∙ c.if-is_empty.false) e in
    let all = rw whole at c.loop-byte.invariant in
    ap Some (to_z_pos w64 c.loop-byte.number (omega (arith, c.loop-byte.invariant.few))) ∙ read-all bytes c.loop-byte.number some all
