-- What std's reading of a number of 64 bits gives.
use Rattle.std.proofs.Common.{◌≡◌, ◌<◌, ◌≤◌, ◌+◌, ◌-◌, ◌*◌, ◌^◌, ◌==◌, ◌∙◌, ◌++◌, ap, take, get_or, false, Some, ℕ, List, [], ◌∷◌, length, zero, suc, None, Result, Ok, Err, true, refl, inl, inr, arith, w64}
use Rattle.std.specs.Prelude.{ℤ, pos, negsuc, ◌&&◌, IsUtf8}
use Rattle.std.specs.Result.{result_ok}
use Rattle.std.specs.Char.{digit_value}
use Rattle.std.specs.Str.{IsAscii}
use Rattle.std.specs.Str.Parse.{AllDigits, IsNumeral, ParsesSigned, digits_value, signed_digits_value, without_leading_sign}
use Rattle.std.specs.Int.RustNames.{FitsSigned}
use Rattle.std.proofs.lemmas.Int.Digits.{digits_push, digits_value_push}
use Rattle.std.proofs.lemmas.List.{take_more}
use Rattle.std.proofs.lemmas.Bool.{and_from, and_parts, cases_Bool, eqb-true, false_from_ne_true, lt-ltb, ltb-true, ne_eqb}
use Rattle.std.proofs.lemmas.Fmt.{IsAscii-from_digits}
use Rattle.std.proofs.lemmas.Str.{IsUtf8-from_ascii, digit_value_digit}
use Rattle.std.proofs.lemmas.Str.Parse.{digit_from_value, numerals_by_value, tells_all_ascii_digits}
use Rattle.amber_rows.specs.Number.{fits_i64, is_digits, read_int_of}

-- the words of the definition and std's words, both ways
fits-to : (z : ℤ) → fits_i64 z ≡ true → FitsSigned w64 z
fits-to (pos n) e = record { sfits = ltb-true n (2 ^ 63) e }
fits-to (negsuc n) e = record { sfits = ltb-true n (2 ^ 63) e }

fits-from : (z : ℤ) → FitsSigned w64 z → fits_i64 z ≡ true
fits-from (pos n) f = lt-ltb n (2 ^ 63) f.sfits
fits-from (negsuc n) f = lt-ltb n (2 ^ 63) f.sfits

digits-to : (ds : List ℕ) → is_digits ds ≡ true → IsNumeral 10 ds
digits-to ds e =
    let parts = and_parts _ _ e in
    (ltb-true 0 (length ds) parts.0, (numerals_by_value _ tells_all_ascii_digits).to ds parts.1)

digits-from : (ds : List ℕ) → IsNumeral 10 ds → is_digits ds ≡ true
digits-from ds h = and_from _ _ (lt-ltb 0 (length ds) h.0) ((numerals_by_value _ tells_all_ascii_digits).from ds h.1)

-- a number that is read, or none
pub read_int-parses : {E : Type 0} (bytes : List ℕ) (r : Result ℤ E) → ParsesSigned w64 10 bytes r → result_ok r ≡ read_int_of bytes
unfolding read_int_of
read_int-parses bytes (Ok z) h =
    let digits = digits-from (without_leading_sign bytes) h.0.0 in
    let fits = fits-from (signed_digits_value 10 bytes) h.0.1 in
    rw (digits, fits, h.1) refl
read_int-parses bytes (Err e) h =
    let none = false_from_ne_true (is_digits (without_leading_sign bytes) && fits_i64 (signed_digits_value 10 bytes)) (λ t.
    let parts = and_parts _ _ t in
    h (digits-to (without_leading_sign bytes) parts.0, fits-to (signed_digits_value 10 bytes) parts.1)) in
    rw none refl

ascii-more : (b : ℕ) (rest : List ℕ) → b < 128 → IsAscii rest → IsAscii (b ∷ rest)
ascii-more b rest small h zero = small
ascii-more b rest small h (suc i) = h i

-- a numeral is ASCII, with its sign too
ascii-numeral : (bytes : List ℕ) → is_digits (without_leading_sign bytes) ≡ true → IsAscii bytes
ascii-numeral [] e = λ i. omega arith
ascii-numeral (b ∷ rest) e =
    elim (cases_Bool (b == 45)) [
      | inl minus ↦ ascii-more b rest (omega (arith, eqb-true b 45 minus)) (IsAscii-from_digits rest (digits-to rest (rw minus at e)).1)
      | inr other ↦ elim (cases_Bool (b == 43)) [
        | inl plus ↦ ascii-more b rest (omega (arith, eqb-true b 43 plus)) (IsAscii-from_digits rest (digits-to rest (rw (other, plus) at e)).1)
        | inr plain ↦ IsAscii-from_digits (b ∷ rest) (digits-to (b ∷ rest) (rw (other, plain) at e)).1
      ]
    ]

-- bytes that are no text are no number
pub read_int-none : (bytes : List ℕ) → (IsUtf8 bytes → ⊥) → None ≡ read_int_of bytes
unfolding read_int_of
read_int-none bytes other =
    let none = false_from_ne_true (is_digits (without_leading_sign bytes) && fits_i64 (signed_digits_value 10 bytes))
    (λ t. other (IsUtf8-from_ascii bytes (ascii-numeral bytes (and_parts _ _ t).0))) in
    rw none refl

-- ---- digits one by one

-- these are digits, and this is their number
pub record IsRead (bytes : List ℕ) (number : ℕ) : Type 0 where
  pub digits : AllDigits 10 bytes
  pub value : number ≡ digits_value 10 bytes
  pub few : number ≤ 10 ^ 18 + 9

pub read-none : IsRead [] 0
read-none = record { digits = tt; value = refl; few = omega arith }

-- one digit more
pub read-more : (bytes : List ℕ) (i old new : ℕ) → i < length bytes → IsRead (take i bytes) old → old ≤ 10 ^ 17 → 48 ≤ get_or bytes i 0 → get_or bytes i 0 ≤ 57
    → new ≡ old * 10 + (get_or bytes i 0 - 48) → IsRead (take (i + 1) bytes) new
read-more bytes i old new h r most low high n =
    let byte = get_or bytes i 0 in
    let next : take (i + 1) bytes ≡ take i bytes ++ byte ∷ [] = take_more bytes i 0 h in
    let is : digit_value byte + 48 ≡ byte = digit_value_digit byte (low, high) in
    let value : digits_value 10 (take (i + 1) bytes) ≡ digits_value 10 (take i bytes) * 10 + digit_value byte = ap (digits_value 10) next ∙ digits_value_push 10 (take i bytes) byte in
    record {
      digits = rw next (digits_push 10 (take i bytes) byte r.digits (omega (arith, is, high)));
      value = omega (arith, n, r.value, value, is);
      few = omega (arith, n, most, high);
    }

other-signs : (byte : ℕ) → digit_value byte < 10 → ((byte == 45) ≡ false) × ((byte == 43) ≡ false)
other-signs byte h = let in_range = digit_from_value byte h in (ne_eqb byte 45 (omega (arith, in_range.0)), ne_eqb byte 43 (omega (arith, in_range.0)))

-- digits alone are what is read
pub read-all : (bytes : List ℕ) (number : ℕ) → (length bytes ≡ 0 → ⊥) → IsRead bytes number → Some (pos number) ≡ read_int_of bytes
unfolding read_int_of
read-all [] number some r = absurd (some refl)
read-all (b ∷ rest) number some r =
    let signs = other-signs b r.digits.0 in
    let digits = digits-from (b ∷ rest) (omega arith, r.digits) in
    let fits : fits_i64 (pos number) ≡ true = lt-ltb number (2 ^ 63) (omega (arith, r.few)) in
    rw (signs.0, signs.1, digits, ← r.value, fits) refl
