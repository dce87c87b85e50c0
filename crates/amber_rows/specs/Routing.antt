-- Which worker gets a row.
use Rattle.std.specs.Prelude.{ℕ, ◌*◌, ◌%◌, ◌^◌, List, [], ◌∷◌, ◌++◌, length, bit_xor, fold}
use Rattle.std.specs.List.{flat_map}
use Rattle.std.specs.Fmt.{decimal, signed_decimal}
use Rattle.amber_rows.specs.Operators.{pick_cells}
use Rattle.amber_rows.specs.declared.value.Value.{Value}
use Rattle.amber_rows.specs.declared.value.Value.TheVariants.{Int, Text}

-- `i`, a number in decimal, and `;`; `t`, a text's length in bytes, `:`, the text, and `;`
abbrev pub key_piece : Value → List ℕ
key_piece (Int n) = 105 ∷ (signed_decimal n ++ 59 ∷ [])
key_piece (Text t) = 116 ∷ (decimal (length t) ++ 58 ∷ (t ++ 59 ∷ []))

-- the bytes of a row's key
unfoldable pub key_bytes_of : List ℕ → List Value → List ℕ
key_bytes_of keys row = flat_map key_piece (pick_cells keys row)

-- one byte more of FNV-1a with 64 bits, by Fowler, Noll and Vo
abbrev pub fnv_step : ℕ → ℕ → ℕ
fnv_step hash byte = (bit_xor hash byte * 1099511628211) % 2 ^ 64

-- FNV-1a with 64 bits
unfoldable pub fnv_of : List ℕ → ℕ
fnv_of bytes = fold fnv_step 14695981039346656037 bytes

-- of this number of workers, the one that a key goes to
unfoldable pub route_of : List ℕ → ℕ → ℕ
route_of key workers = fnv_of key % workers
