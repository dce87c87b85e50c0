-- The words of numbers, constants and comparisons read as these.
use Rattle.std.proofs.Common.{◌≡◌, ◌==◌, ℕ, zero, suc, ◌+◌, ◌%◌, ◌^◌, ◌<◌, ◌++◌, true, false, ℤ, pos, negsuc, List, [], ◌∷◌, Some, refl, sym, ap, ◌∙◌, arith, option_map}
use Rattle.std.specs.Prelude.{decimal, bytes_eq, nat_lt, option_and_then}
use Rattle.std.specs.Fmt.{signed_decimal}
use Rattle.std.specs.Str.{all_ascii_digits, is_utf8}
use Rattle.std.specs.Str.Parse.{digits_value}
use Rattle.std.proofs.lemmas.Bool.{lt-ltb, ltb-true, ne_eqb}
use Rattle.std.proofs.lemmas.Fmt.{digits_decimal, digits_value-decimal, decimal_by_steps}
use Rattle.std.proofs.lemmas.Slice.Eq.{bytes_eq-Decides}
use Rattle.std.proofs.lemmas.Str.Parse.{IsNumeralModel, numerals_by_value, tells_all_ascii_digits}
use Rattle.hex.specs.Hex.{IsBytes, encode_lower}
use Rattle.hex.proofs.HexLemmas.{decode_of-encode_lower}
use Rattle.amber_rows.specs.Number.{fits_i64}
use Rattle.amber_rows.specs.declared.cond.Cmp.{Cmp}
use Rattle.amber_rows.specs.declared.cond.Cmp.TheVariants as cmp
use Rattle.amber_rows.specs.declared.value.Value.{Value}
use Rattle.amber_rows.specs.declared.value.Value.TheVariants as value
use Rattle.amber_log.specs.Grammar.{IsConstant}
use Rattle.amber_log.specs.Operands.{above_zero, comparison_of, constant_of, hex_text, minus, number, signed_number, text_when_exact}
use Rattle.amber_log.specs.Words.{constant_word, sign_of}
use Rattle.amber_log.proofs.Utf8Bytes.{IsBytes-utf8}

-- texts of digits and their values
pub own : IsNumeralModel (λ ds. all_ascii_digits ds ≡ true) (digits_value 10)
own = numerals_by_value _ tells_all_ascii_digits

pub bytes_eq-same : (xs : List ℕ) → bytes_eq xs xs ≡ true
bytes_eq-same xs = (bytes_eq-Decides xs xs).1 refl

-- a number's decimal reads as it
pub number-decimal : (limit n : ℕ) → n < limit → n < 2 ^ 64 → number limit (decimal n) ≡ Some n
unfolding number
number-decimal limit n below small =
    let digits : all_ascii_digits (decimal n) ≡ true = digits_decimal own n small in
    let value : digits_value 10 (decimal n) ≡ n = digits_value-decimal own n small in
    let fits : nat_lt n limit ≡ true = lt-ltb n limit below in
    let same : bytes_eq (decimal n) (decimal n) ≡ true = bytes_eq-same (decimal n) in
    rw (value, digits, fits, same) refl

pub above_zero-same : (n : ℕ) → 0 < n → above_zero n ≡ Some n
above_zero-same zero some = absurd (omega arith)
above_zero-same (suc n) some = refl

-- a decimal does not begin with `-`
pub first_digit : (n : ℕ) → n < 2 ^ 64 → (byte : ℕ) × (bytes : List ℕ) × (decimal n ≡ byte ∷ bytes) × ((byte ≡ 45) → ⊥)
first_digit n small =
    decimal_by_steps (λ n ds. (byte : ℕ) × (bytes : List ℕ) × (ds ≡ byte ∷ bytes) × ((byte ≡ 45) → ⊥))
    (λ n lt. (48 + n, [], refl, λ e. omega arith))
    (λ n ds ge h. (h.0, h.1 ++ ((48 + n % 10) ∷ []), ap (λ (t : List ℕ). t ++ ((48 + n % 10) ∷ [])) h.2, h.3))
    n small

pub number32 : (n : ℕ) → n < 2 ^ 32 → number (2 ^ 32) (decimal n) ≡ Some n
number32 n below = number-decimal (2 ^ 32) n below (omega arith)

pub number64 : (n : ℕ) → n < 2 ^ 64 → number (2 ^ 64) (decimal n) ≡ Some n
number64 n below = number-decimal (2 ^ 64) n below below

-- a number that is not negative
pub signed_number-plain : (digits : List ℕ) (n byte : ℕ) (bytes : List ℕ) → number (2 ^ 63) digits ≡ Some n → digits ≡ byte ∷ bytes → ((byte ≡ 45) → ⊥)
    → signed_number digits ≡ Some (pos n)
unfolding signed_number
signed_number-plain digits n byte bytes read e apart =
    let other : (byte == 45) ≡ false = ne_eqb byte 45 apart in
    let whole : number (2 ^ 63) (byte ∷ bytes) ≡ Some n = ap (number (2 ^ 63)) (sym e) ∙ read in
    ap signed_number e ∙ rw (other, whole) refl

pub signed_number-decimal : (n : ℤ) → fits_i64 n ≡ true → signed_number (signed_decimal n) ≡ Some n
unfolding signed_number
signed_number-decimal (pos n) fits =
    let below : n < 2 ^ 63 = ltb-true n (2 ^ 63) fits in
    let first = first_digit n (omega arith) in
    signed_number-plain (decimal n) n first.0 first.1 (number-decimal (2 ^ 63) n below (omega arith)) first.2 first.3
signed_number-decimal (negsuc n) fits =
    let below : n < 2 ^ 63 = ltb-true n (2 ^ 63) fits in
    ap (option_and_then minus) (number-decimal (2 ^ 63 + 1) (suc n) (omega arith) (omega arith))

pub hex_text-encode : (text : List ℕ) → IsBytes text → is_utf8 text ≡ true → hex_text (encode_lower text) ≡ Some text
unfolding hex_text
hex_text-encode text bytes utf8 =
    let same : bytes_eq (encode_lower text) (encode_lower text) ≡ true = bytes_eq-same (encode_lower text) in
    ap (text_when_exact (encode_lower text)) (decode_of-encode_lower text bytes) ∙ rw (utf8, same) refl

pub constant_of-word : (constant : Value) → IsConstant constant → constant_of (constant_word constant) ≡ Some constant
unfolding constant_of
constant_of-word (value.Int n) h = ap (option_map (λ n. value.Int n)) (signed_number-decimal n h)
constant_of-word (value.Text text) h = ap (option_map (λ text. value.Text text)) (hex_text-encode text (IsBytes-utf8 text h) h)

pub comparison_of-sign : (sign : Cmp) → comparison_of (sign_of sign) ≡ Some sign
unfolding comparison_of
comparison_of-sign cmp.Eq = refl
comparison_of-sign cmp.Ne = refl
comparison_of-sign cmp.Lt = refl
comparison_of-sign cmp.Le = refl
comparison_of-sign cmp.Gt = refl
comparison_of-sign cmp.Ge = refl
