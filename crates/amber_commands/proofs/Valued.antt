-- Decimals, ids, signs and constants: the words of a reply that say them, and what is read of these.
use Rattle.std.proofs.Common.{◌≡◌, ◌==◌, ℕ, zero, suc, ◌^◌, ◌<◌, ◌≤◌, true, false, List, [], ◌∷◌, length, Some, Ok, refl, sym, inl, inr, arith, nat_le, nat_lt, w64}
use Rattle.std.specs.Prelude.{not, ◌&&◌, ℤ, pos, negsuc}
use Rattle.std.specs.Char.{digit_value}
use Rattle.std.specs.Fmt.{decimal, signed_decimal}
use Rattle.std.specs.List.{list_all}
use Rattle.std.specs.Str.{IsAscii}
use Rattle.std.specs.Str.Parse.{AllDigits, IsNumeral, ParsesSigned, digits_value, signed_digits_value, without_leading_sign}
use Rattle.std.proofs.lemmas.Bool.{and_from, and_parts, cases_Bool, ltb-true, ne_eqb}
use Rattle.std.proofs.lemmas.Bool.Decides.{nat_tests}
use Rattle.std.proofs.lemmas.Fmt.{decimal_is_IsNumeral}
use Rattle.std.proofs.lemmas.Str.{IsUtf8-from_ascii, is_utf8-from_IsUtf8}
use Rattle.std.proofs.lemmas.Str.Parse.{digit_from_value}
use Rattle.amber_rows.specs.Columns.{is_id, is_id_byte, is_letter, kind_of}
use Rattle.amber_rows.specs.Number.{fits_i64, read_int_of}
use Rattle.amber_rows.specs.Suits.{same_kind}
use Rattle.amber_rows.specs.declared.column.ColKind.{ColKind}
use Rattle.amber_rows.specs.declared.column.ColKind.TheVariants as kind
use Rattle.amber_rows.specs.declared.cond.Cmp.{Cmp}
use Rattle.amber_rows.specs.declared.cond.Cmp.TheVariants as cmp
use Rattle.amber_rows.specs.declared.value.Value.{Value}
use Rattle.amber_rows.specs.declared.value.Value.TheVariants as value
use Rattle.amber_rows.proofs.Numerals.{read_int-parses}
use Rattle.amber_log.specs.Grammar.{IsConstant}
use Rattle.amber_log.specs.Operands.{comparison_of}
use Rattle.amber_log.specs.Words.{sign_of}
use Rattle.amber_meaning.specs.Texts.{is_bare_byte, value_word}
use Rattle.amber_script.specs.Commands.{script_constant}
use Rattle.amber_commands.proofs.Spelling.{IsWordOf, inline-bare, spells-bare, word-of}

-- ---- bare words are texts

bare-most : (b : ℕ) → is_bare_byte b ≡ true → b < 128
bare-most b h =
    let front = and_parts (nat_le 33 b && nat_le b 126) (not (b == 34)) h in
    let high = and_parts (nat_le 33 b) (nat_le b 126) front.0 in
    grind (arith, nat_tests)

bare-ascii : (word : List ℕ) → list_all is_bare_byte word ≡ true → IsAscii word
bare-ascii [] h i = omega arith
bare-ascii (b ∷ bs) h zero = bare-most b (and_parts (is_bare_byte b) (list_all is_bare_byte bs) h).0
bare-ascii (b ∷ bs) h (suc i) = bare-ascii bs (and_parts (is_bare_byte b) (list_all is_bare_byte bs) h).1 i

-- a word of such bytes that begins with no `#`
pub starts-bare : (b : ℕ) (bs : List ℕ) → not (b == 35) ≡ true → list_all is_bare_byte (b ∷ bs) ≡ true → IsWordOf (b ∷ bs) (b ∷ bs)
starts-bare b bs first h = record {
  spells = spells-bare (b ∷ bs) (and_from (not (b == 35)) (list_all is_bare_byte (b ∷ bs)) first h);
  inline = inline-bare (b ∷ bs) h;
  utf8 = is_utf8-from_IsUtf8 (b ∷ bs) (IsUtf8-from_ascii (b ∷ bs) (bare-ascii (b ∷ bs) h));
}

-- ---- digits

digit-range : (b : ℕ) → digit_value b < 10 → (48 ≤ b) × (b ≤ 57)
digit-range b h = let is = digit_from_value b h in (is.0, is.1)

digit-bare : (b : ℕ) → 48 ≤ b → b ≤ 57 → is_bare_byte b ≡ true
digit-bare b low high =
    let least : nat_le 33 b ≡ true = grind (arith, nat_tests) in
    let most : nat_le b 126 ≡ true = grind (arith, nat_tests) in
    let other : (b == 34) ≡ false = grind (arith, nat_tests) in
    rw (least, most, other) refl

digits-bare : (ds : List ℕ) → AllDigits 10 ds → list_all is_bare_byte ds ≡ true
digits-bare [] h = refl
digits-bare (b ∷ bs) h = let in_range = digit-range b h.0 in and_from (is_bare_byte b) (list_all is_bare_byte bs) (digit-bare b in_range.0 in_range.1) (digits-bare bs h.1)

digit-first : (b : ℕ) → 48 ≤ b → not (b == 35) ≡ true
digit-first b low = let other : (b == 35) ≡ false = grind (arith, nat_tests) in rw other refl

numeral-word : (ds : List ℕ) → IsNumeral 10 ds → IsWordOf ds ds
numeral-word [] h = absurd (omega (arith, h.0))
numeral-word (b ∷ bs) h = starts-bare b bs (digit-first b (digit-range b h.1.0).0) (digits-bare (b ∷ bs) h.1)

pub decimal-word : (n : ℕ) → n < 2 ^ 64 → IsWordOf (decimal n) (decimal n)
decimal-word n small = numeral-word (decimal n) (decimal_is_IsNumeral n small).0

signed-word : (z : ℤ) → fits_i64 z ≡ true → IsWordOf (signed_decimal z) (signed_decimal z)
signed-word (pos n) h = let small : n < 2 ^ 63 = ltb-true n (2 ^ 63) h in decimal-word n (omega (arith, small))
signed-word (negsuc n) h =
    let small : n < 2 ^ 63 = ltb-true n (2 ^ 63) h in
    starts-bare 45 (decimal (suc n)) refl (digits-bare (decimal (suc n)) (decimal_is_IsNumeral (suc n) (omega (arith, small))).0.1)

-- ---- numbers with a sign

no-sign : (b : ℕ) → digit_value b < 10 → ((b == 45) ≡ false) × ((b == 43) ≡ false)
no-sign b h = let is = digit-range b h in (ne_eqb b 45 (omega (arith, is.0)), ne_eqb b 43 (omega (arith, is.0)))

plain-numeral : (ds : List ℕ) → IsNumeral 10 ds → (without_leading_sign ds ≡ ds) × (signed_digits_value 10 ds ≡ pos (digits_value 10 ds))
plain-numeral [] h = absurd (omega (arith, h.0))
plain-numeral (b ∷ bs) h = let signs = no-sign b h.1.0 in (rw (signs.0, signs.1) refl, rw (signs.0, signs.1) refl)

plain-read : (n : ℕ) → n < 2 ^ 63 → ParsesSigned {E = Unit {0}} w64 10 (decimal n) (Ok (pos n))
plain-read n small =
    let is = decimal_is_IsNumeral n (omega (arith, small)) in
    let plain = plain-numeral (decimal n) is.0 in
    ((rw plain.0 is.0, rw (plain.1, is.1) (record { sfits = small })), rw (plain.1, is.1) refl)

minus-read : (n : ℕ) → n < 2 ^ 63 → ParsesSigned {E = Unit {0}} w64 10 (45 ∷ decimal (suc n)) (Ok (negsuc n))
minus-read n small =
    let is = decimal_is_IsNumeral (suc n) (omega (arith, small)) in
    ((is.0, rw is.1 (record { sfits = small })), rw is.1 refl)

-- a number is read from its decimal
pub int-read : (z : ℤ) → fits_i64 z ≡ true → read_int_of (signed_decimal z) ≡ Some z
int-read (pos n) h = sym (read_int-parses {E = Unit {0}} (decimal n) (Ok (pos n)) (plain-read n (ltb-true n (2 ^ 63) h)))
int-read (negsuc n) h = sym (read_int-parses {E = Unit {0}} (45 ∷ decimal (suc n)) (Ok (negsuc n)) (minus-read n (ltb-true n (2 ^ 63) h)))

-- ---- ids

letter-bare : (b : ℕ) → is_letter b ≡ true → (is_bare_byte b ≡ true) × (not (b == 35) ≡ true)
letter-bare b h =
    let parts = and_parts (nat_le 97 b) (nat_le b 122) h in
    let least : nat_le 33 b ≡ true = grind (arith, nat_tests) in
    let most : nat_le b 126 ≡ true = grind (arith, nat_tests) in
    let other : (b == 34) ≡ false = grind (arith, nat_tests) in
    let first : (b == 35) ≡ false = grind (arith, nat_tests) in
    (rw (least, most, other) refl, rw first refl)

id-bare : (b : ℕ) → is_id_byte b ≡ true → is_bare_byte b ≡ true
id-bare b h =
    elim (cases_Bool (is_letter b)) [
      | inl letter ↦ (letter-bare b letter).0
      | inr other ↦ elim (cases_Bool (nat_le 48 b && nat_le b 57)) [
        | inl digit ↦ (let parts = and_parts (nat_le 48 b) (nat_le b 57) digit in digit-bare b (grind (arith, nat_tests)) (grind (arith, nat_tests)))
        | inr none ↦ (let line : (b == 95) ≡ true = rw (other, none) at h in let is : b ≡ 95 = grind (arith, nat_tests) in rw is refl)
      ]
    ]

ids-bare : (bs : List ℕ) → list_all is_id_byte bs ≡ true → list_all is_bare_byte bs ≡ true
ids-bare [] h = refl
ids-bare (b ∷ bs) h =
    let parts = and_parts (is_id_byte b) (list_all is_id_byte bs) h in
    and_from (is_bare_byte b) (list_all is_bare_byte bs) (id-bare b parts.0) (ids-bare bs parts.1)

pub id-word : (id : List ℕ) → is_id id ≡ true → IsWordOf id id
unfolding is_id
id-word [] h = absurd cc
id-word (b ∷ bs) h =
    let parts = and_parts (is_letter b && list_all is_id_byte bs) (nat_lt (length bs) 32) h in
    let front = and_parts (is_letter b) (list_all is_id_byte bs) parts.0 in
    let letter = letter-bare b front.0 in
    starts-bare b bs letter.1 (and_from (is_bare_byte b) (list_all is_bare_byte bs) letter.0 (ids-bare bs front.1))

-- ---- signs of comparisons

pub sign-word : (comparison : Cmp) → IsWordOf (sign_of comparison) (sign_of comparison)
sign-word cmp.Eq = starts-bare 61 [] refl refl
sign-word cmp.Ne = starts-bare 33 (61 ∷ []) refl refl
sign-word cmp.Lt = starts-bare 60 [] refl refl
sign-word cmp.Le = starts-bare 60 (61 ∷ []) refl refl
sign-word cmp.Gt = starts-bare 62 [] refl refl
sign-word cmp.Ge = starts-bare 62 (61 ∷ []) refl refl

pub sign-read : (comparison : Cmp) → comparison_of (sign_of comparison) ≡ Some comparison
unfolding comparison_of
sign-read cmp.Eq = refl
sign-read cmp.Ne = refl
sign-read cmp.Lt = refl
sign-read cmp.Le = refl
sign-read cmp.Gt = refl
sign-read cmp.Ge = refl

-- ---- constants

-- the text that the word of a constant says
abbrev pub value_text : Value → List ℕ
value_text (value.Int n) = signed_decimal n
value_text (value.Text text) = text

pub value-is-word : (v : Value) → IsConstant v → IsWordOf (value_word v) (value_text v)
value-is-word (value.Int n) h = signed-word n h
value-is-word (value.Text text) h = word-of text h

-- a constant of the column's kind is read from it
pub constant-read : (k : ColKind) (v : Value) → IsConstant v → same_kind k (kind_of v) ≡ true → script_constant k (value_text v) ≡ Ok v
constant-read kind.Int (value.Int n) h same = rw (int-read n h) refl
constant-read kind.Int (value.Text text) h same = absurd cc
constant-read kind.Text (value.Int n) h same = absurd cc
constant-read kind.Text (value.Text text) h same = refl
