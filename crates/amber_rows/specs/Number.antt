-- The whole number that a field is.
use Rattle.std.specs.Prelude.{ℕ, ◌^◌, ◌&&◌, ℤ, pos, negsuc, nat_lt, List, length, Option, Some, None, Bool, if◌then◌else◌}
use Rattle.std.specs.Str.{all_ascii_digits}
use Rattle.std.specs.Str.Parse.{signed_digits_value, without_leading_sign}

-- a number of 64 bits with a sign
abbrev pub fits_i64 : ℤ → Bool
fits_i64 (pos n) = nat_lt n (2 ^ 63)
fits_i64 (negsuc n) = nat_lt n (2 ^ 63)

-- one or more digits
abbrev pub is_digits : List ℕ → Bool
is_digits bytes = nat_lt 0 (length bytes) && all_ascii_digits bytes

-- the number that an optional sign and one or more digits stand for, where 64 bits hold it
unfoldable pub read_int_of : List ℕ → Option ℤ
read_int_of bytes =
    if is_digits (without_leading_sign bytes) && fits_i64 (signed_digits_value 10 bytes) then Some (signed_digits_value 10 bytes) else None
