-- What a key feeds a hasher.
use Rattle.std.specs.Prelude.{◌≡◌, true, List}
use Rattle.std.proofs.Common.{ap}
use Rattle.std.specs.Hash as fed
use Rattle.std.specs.Hash.{HashWrites}
use Rattle.std.specs.List.{flat_map}
use Rattle.amber_rows.specs.Operators.{same_row}
use Rattle.amber_rows.specs.declared.value.Value.{Value}
use Rattle.amber_rows.specs.declared.value.Value.TheVariants.{Int, Text}
use Rattle.amber_keys.specs.SameRows.{same-is}

-- a number as std's `i64`, a text as std's `str`
abbrev pub cell_writes : Value → HashWrites
cell_writes (Int n) = fed.i64 n
cell_writes (Text t) = fed.str t

-- cell by cell
unfoldable pub key_writes : List Value → HashWrites
key_writes cells = flat_map cell_writes cells

pub key_writes_alike : (x y : List Value) → same_row x y ≡ true → key_writes x ≡ key_writes y
key_writes_alike x y e = ap key_writes (same-is x y e)
