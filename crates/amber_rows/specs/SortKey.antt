-- A number of 64 bits that rises with rows: where two rows' keys differ, the rows stand as the keys do.
use Rattle.std.specs.Prelude.{ℕ, zero, suc, ◌+◌, ◌-◌, ◌*◌, ◌^◌, ℤ, pos, negsuc, nat_lt, min, Bool, ◌&&◌, List, [], ◌∷◌, if◌then◌else◌}
use Rattle.amber_rows.specs.declared.value.Value.{Value}
use Rattle.amber_rows.specs.declared.value.Value.TheVariants.{Int, Text}

-- 2 ^ 62 stands for 0; numbers too far from 0 share the last key on their side
abbrev pub int_key : ℤ → ℕ
int_key (pos n) = 2 ^ 62 + min n (2 ^ 62 - 1)
int_key (negsuc n) = 2 ^ 62 - (n + 1)

-- the first n bytes as a number, the first byte highest, with 0 for each that is missing; the largest such number where one is no byte
unfoldable pub front : ℕ → List ℕ → ℕ
front zero bytes = 0
front (suc n) [] = 0
front (suc n) (b ∷ bytes) = if nat_lt b 256 then b * 256 ^ n + front n bytes else 256 ^ suc n - 1

-- a text comes after each number
abbrev pub cell_key : Value → ℕ
cell_key (Int n) = int_key n
cell_key (Text t) = 2 ^ 63 + front 7 t

-- the key of the first cell
unfoldable pub key_of : List Value → ℕ
key_of [] = 0
key_of (cell ∷ cells) = cell_key cell

-- whether one number alone has this key
abbrev pub key_tells_number : ℕ → Bool
key_tells_number key = nat_lt 0 key && nat_lt key (2 ^ 63 - 1)
