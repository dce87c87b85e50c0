-- A number that a word is.
use Rattle.std.specs.Prelude.{ℕ, ◌==◌, ◌&&◌, nat_le, nat_lt, not, List, [], ◌∷◌, bytes_eq, Bool, false, Option, Some, None, if◌then◌else◌}
use Rattle.std.specs.Char.{is_ascii_digit}
use Rattle.std.specs.Fmt.{decimal}
use Rattle.std.specs.List.{list_all}
use Rattle.std.specs.Str.Parse.{digits_value}

-- a number, where it is from 1 to `most` and the word is its decimal
abbrev pub number_where : ℕ → List ℕ → ℕ → Option ℕ
number_where most word n = if bytes_eq (decimal n) word && nat_le 1 n && nat_le n most then Some n else None

-- the number from 1 to `most` whose decimal, without leading zeros, a word is
unfoldable pub number_up_to : ℕ → List ℕ → Option ℕ
number_up_to most word = number_where most word (digits_value 10 word)

-- digits, of which the first is no 0 unless it is the only one
abbrev pub is_canonical : List ℕ → Bool
is_canonical [] = false
is_canonical (byte ∷ []) = list_all is_ascii_digit (byte ∷ [])
is_canonical (byte ∷ next ∷ more) = not (byte == 48) && list_all is_ascii_digit (byte ∷ next ∷ more)

-- the number, of any size, that a word is without leading zeros
unfoldable pub whole_number : List ℕ → Option ℕ
whole_number word = if is_canonical word then Some (digits_value 10 word) else None

-- a number, where it is below this limit
abbrev pub below : ℕ → ℕ → Option ℕ
below limit n = if nat_lt n limit then Some n else None
