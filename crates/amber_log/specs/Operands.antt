-- The numbers, constants and conditions of a line of a log, word by word.
use Rattle.std.specs.Prelude.{ℕ, suc, zero, ◌+◌, ◌^◌, ◌==◌, ◌&&◌, ℤ, pos, negsuc, nat_lt, List, [], ◌∷◌, codes, decimal, bytes_eq, Option, Some, None, option_map, option_and_then, Result, Ok, Err, if◌then◌else◌}
use Rattle.std.specs.Str.{all_ascii_digits, is_utf8}
use Rattle.std.specs.Str.Parse.{digits_value}
use Rattle.hex.specs.Hex.{decode_of, encode_lower}
use Rattle.hex.specs.declared.error.FromHexError.{FromHexError}
use Rattle.amber_rows.specs.declared.cond.Cmp.{Cmp}
use Rattle.amber_rows.specs.declared.cond.Cmp.TheVariants as cmp
use Rattle.amber_rows.specs.declared.cond.Cond.{Cond}
use Rattle.amber_rows.specs.declared.value.Value.{Value}
use Rattle.amber_rows.specs.declared.value.Value.TheVariants as value

-- ---- numbers and constants

-- the number below a limit that these digits are; one that would be written otherwise is none
unfoldable pub number : ℕ → List ℕ → Option ℕ
number limit digits =
    if all_ascii_digits digits && (nat_lt (digits_value 10 digits) limit && bytes_eq digits (decimal (digits_value 10 digits)))
    then Some (digits_value 10 digits)
    else None

-- a number below a limit that is not 0
abbrev pub above_zero : ℕ → Option ℕ
above_zero zero = None
above_zero (suc n) = Some (suc n)

-- the number below 0 of this size. There is no `-0`
abbrev pub minus : ℕ → Option ℤ
minus zero = None
minus (suc n) = Some (negsuc n)

-- a number of 64 bits with a sign, `-` where it is negative
unfoldable pub signed_number : List ℕ → Option ℤ
signed_number [] = None
signed_number (byte ∷ bytes) =
    if byte == 45 then option_and_then minus (number (2 ^ 63 + 1) bytes) else option_map pos (number (2 ^ 63) (byte ∷ bytes))

abbrev pub text_when_exact : List ℕ → Result (List ℕ) FromHexError → Option (List ℕ)
text_when_exact digits (Ok text) = if is_utf8 text && bytes_eq digits (encode_lower text) then Some text else None
text_when_exact digits (Err error) = None

-- the text whose UTF-8 bytes these digits are, in lower case
unfoldable pub hex_text : List ℕ → Option (List ℕ)
hex_text digits = text_when_exact digits (decode_of digits)

-- a constant: `i` and a number, or `t` and a text in hexadecimal
unfoldable pub constant_of : List ℕ → Option Value
constant_of [] = None
constant_of (byte ∷ bytes) =
    if byte == 105 then option_map (λ n. value.Int n) (signed_number bytes)
    else if byte == 116 then option_map (λ text. value.Text text) (hex_text bytes)
    else None

unfoldable pub comparison_of : List ℕ → Option Cmp
comparison_of word =
    if bytes_eq word (codes "=") then Some cmp.Eq
    else if bytes_eq word (codes "!=") then Some cmp.Ne
    else if bytes_eq word (codes "<") then Some cmp.Lt
    else if bytes_eq word (codes "<=") then Some cmp.Le
    else if bytes_eq word (codes ">") then Some cmp.Gt
    else if bytes_eq word (codes ">=") then Some cmp.Ge
    else None

-- ---- what follows a command's operator

-- no word
abbrev pub nothing_in : List (List ℕ) → Option (Unit {0})
nothing_in [] = Some tt
nothing_in (a ∷ more) = None

-- the one word that there is
abbrev pub one_word : List (List ℕ) → Option (List ℕ)
one_word [] = None
one_word (a ∷ []) = Some a
one_word (a ∷ b ∷ more) = None

-- a number of rows
abbrev pub row_count_in : List (List ℕ) → Option ℕ
row_count_in words = option_and_then (number (2 ^ 64)) (one_word words)

-- a worker's number
abbrev pub worker_in : List (List ℕ) → Option ℕ
worker_in words = option_and_then (number (2 ^ 32)) (one_word words)

-- a constant
abbrev pub value_in : List (List ℕ) → Option Value
value_in words = option_and_then constant_of (one_word words)

-- the condition of a column, a sign and a constant
abbrev pub condition_of : List ℕ → List ℕ → List ℕ → Option Cond
condition_of column sign constant =
    option_and_then
    (λ n. option_and_then (λ op. option_map (λ v. record { column = n; op = op; constant = v }) (constant_of constant)) (comparison_of sign))
    (number (2 ^ 32) column)

-- a condition: a column, a sign and a constant
abbrev pub condition_in : List (List ℕ) → Option Cond
condition_in [] = None
condition_in (a ∷ []) = None
condition_in (a ∷ b ∷ []) = None
condition_in (column ∷ sign ∷ constant ∷ []) = condition_of column sign constant
condition_in (a ∷ b ∷ c ∷ d ∷ more) = None
