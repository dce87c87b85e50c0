-- A word that is a worker's number.
use Rattle.std.proofs.Common.{◌≡◌, ℕ, ◌^◌, ◌<◌, ◌≤◌, ◌==◌, true, false, Bool, List, [], ◌∷◌, length, None, Result, Ok, Err, refl, sym, ap, ◌∙◌, arith, inl, inr}
use Rattle.std.specs.Prelude.{◌&&◌, not, nat_lt}
use Rattle.std.specs.List.{list_all}
use Rattle.std.specs.Char.{is_ascii_digit}
use Rattle.std.specs.Str.{all_ascii_digits}
use Rattle.std.specs.Str.Parse.{ParsesUnsigned, digits_value}
use Rattle.std.proofs.lemmas.Bool.{and_parts, cases_Bool}
use Rattle.std.proofs.lemmas.Bool.Decides.{nat_tests}
use Rattle.std.proofs.lemmas.Str.Parse.{numerals_by_value, parse_digits, tells_all_ascii_digits}
use Rattle.amber_script.specs.Numbers.{below, is_canonical}

-- each byte is a digit
pub all_digits : (word : List ℕ) → list_all is_ascii_digit word ≡ all_ascii_digits word
all_digits [] = refl
all_digits (byte ∷ word) = ap (λ (t : Bool). is_ascii_digit byte && t) (all_digits word)

-- a decimal has digits alone, and one at least
digits_are : (word : List ℕ) → is_canonical word ≡ true → (all_ascii_digits word ≡ true) × (0 < length word)
digits_are [] h = absurd (cc)
digits_are (byte ∷ []) h = (sym (all_digits (byte ∷ [])) ∙ h, omega arith)
digits_are (byte ∷ next ∷ more) h =
    let word = byte ∷ next ∷ more in
    (sym (all_digits word) ∙ (and_parts (not (byte == 48)) (list_all is_ascii_digit word) h).1, omega arith)

-- what std reads, with one error for all
abbrev Parsed : Type 0
Parsed = Result ℕ (Unit {0})

-- a decimal that std reads as a number is that number
pub number_read : (word : List ℕ) (number : ℕ) → is_canonical word ≡ true → ParsesUnsigned {E = Unit {0}} 32 10 word (Ok number) → digits_value 10 word ≡ number
number_read word number h read =
    let digits = digits_are word h in
    sym ((parse_digits (numerals_by_value _ tells_all_ascii_digits) {E = Unit {0}} 32 word (Ok number) read digits.0).1)

-- a decimal that std does not read is of more than 32 bits
is_wide : (word : List ℕ) → is_canonical word ≡ true → ParsesUnsigned {E = Unit {0}} 32 10 word (Err tt) → 2 ^ 32 ≤ digits_value 10 word
is_wide word h unread =
    let digits = digits_are word h in
    elim (cases_Bool (nat_lt (digits_value 10 word) (2 ^ 32))) [
      | inl small ↦ absurd (parse_digits (numerals_by_value _ tells_all_ascii_digits) {E = Unit {0}} 32 word (Err tt) unread digits.0 (digits.1, grind (arith, nat_tests)))
      | inr large ↦ grind (arith, nat_tests)
    ]

-- so it is not below a limit of 32 bits
pub number_unread : (word : List ℕ) (limit : ℕ) → limit < 2 ^ 32 → is_canonical word ≡ true → ParsesUnsigned {E = Unit {0}} 32 10 word (Err tt)
    → None ≡ below limit (digits_value 10 word)
number_unread word limit fits h unread =
    let wide = is_wide word h unread in
    let no : nat_lt (digits_value 10 word) limit ≡ false = grind (arith, nat_tests) in
    rw no refl
