-- Digits are a number exactly where they are its decimal.
use Rattle.std.proofs.Common.{◌≡◌, ℕ, ◌+◌, ◌^◌, ◌<◌, ◌≤◌, List, Option, Some, None, Result, Ok, Err, refl, sym, ap, ◌∙◌, arith, subst}
use Rattle.std.specs.Prelude.{IfSome, decimal}
use Rattle.std.specs.Str.{IsUtf8}
use Rattle.std.specs.Str.Parse.{ParsesUnsigned}
use Rattle.std.proofs.lemmas.Fmt.{IsAscii-decimal, parse-decimal}
use Rattle.std.proofs.lemmas.Str.{IsUtf8-from_ascii}
use Rattle.amber_log.specs.Operands.{number}
use Rattle.amber_log.proofs.FoundOperands.{IsNumber, number-found}
use Rattle.amber_log.proofs.OperandsRead.{number-decimal}

-- digits that are no number's decimal are no number
none : (limit : ℕ) (digits : List ℕ) → ((n : ℕ) → n < limit → digits ≡ decimal n → ⊥) → None ≡ number limit digits
none limit digits never = none_of (number limit digits) (number-found limit digits)
  where
    none_of : (o : Option ℕ) → IfSome o (IsNumber limit digits) → None ≡ o
    none_of None h = refl
    none_of (Some n) h = absurd (never n h.1 h.0)

pub none-no_text : (most : ℕ) (digits : List ℕ) → most < 2 ^ 64 → (IsUtf8 digits → ⊥) → None ≡ number (most + 1) digits
none-no_text most digits small broken =
    none (most + 1) digits (λ n below e. broken (subst (λ (b : List ℕ). IsUtf8 b) (sym e) (IsUtf8-from_ascii (decimal n) (IsAscii-decimal n (omega (arith, below, small))))))

-- what a text is parsed as
pub parsed : {E : Type 0} (digits text : List ℕ) (r : Result ℕ E) (n : ℕ) → n < 2 ^ 64 → text ≡ digits → digits ≡ decimal n → ParsesUnsigned 64 10 text r → r ≡ Ok n
parsed digits text r n small same e h = parse-decimal 64 n text r small small (same ∙ e) h

pub none-not_parsed : {E : Type 0} (most : ℕ) (digits text : List ℕ) (r : Result ℕ E) (error : E) → most < 2 ^ 64 → text ≡ digits
    → ParsesUnsigned 64 10 text r → r ≡ Err error → None ≡ number (most + 1) digits
none-not_parsed most digits text r error small same h failed =
    none (most + 1) digits (λ n below e. not_both (sym failed ∙ parsed digits text r n (omega (arith, below, small)) same e h))
  where
    is_failed : {E : Type 0} → Result ℕ E → Type 0
    is_failed (Ok n) = ⊥
    is_failed (Err error) = Unit {0}

    not_both : {E : Type 0} {error : E} {n : ℕ} → Err error ≡ Ok n → ⊥
    not_both e = subst (λ r. is_failed r) e tt

ok_or_zero : {E : Type 0} → Result ℕ E → ℕ
ok_or_zero (Ok n) = n
ok_or_zero (Err error) = 0

value-is : {E : Type 0} (value n : ℕ) → (r : Result ℕ E) → r ≡ Ok value → r ≡ Ok n → value ≡ n
unfolding ok_or_zero
value-is value n r one other = ap (λ r. ok_or_zero r) (sym one ∙ other)

-- the parsed value is too large, or would be written otherwise
pub none-other : {E : Type 0} (most value : ℕ) (digits text : List ℕ) (r : Result ℕ E) → most < 2 ^ 64 → text ≡ digits
    → ParsesUnsigned 64 10 text r → r ≡ Ok value → (value ≤ most → decimal value ≡ digits → ⊥) → None ≡ number (most + 1) digits
none-other most value digits text r small same h found never =
    none (most + 1) digits
    (λ n below e. let is : value ≡ n = value-is value n r found (parsed digits text r n (omega (arith, below, small)) same e h) in
    never (omega (arith, is, below)) (ap decimal is ∙ sym e))

pub some-number : (most value : ℕ) (digits : List ℕ) → most < 2 ^ 64 → value ≤ most → decimal value ≡ digits → Some value ≡ number (most + 1) digits
some-number most value digits small fits e =
    sym (ap (number (most + 1)) (sym e) ∙ number-decimal (most + 1) value (omega (arith, fits)) (omega (arith, fits, small)))
