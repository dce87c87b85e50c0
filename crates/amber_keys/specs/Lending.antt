-- What a table of keys ends as, once a value of it that was lent comes back.
use Rattle.std.specs.Prelude.{ℕ}
use Rattle.std.specs.Borrow.{Fml, Lends, MutBor, RattleType}
use Rattle.amber_keys.specs.KeyTable.{Table, with_entry_value}
use Rattle.amber_keys.specs.contracts.table.KeyTable.{the_row}

-- the table ends with the last value written through r beside the key at a place
abbrev pub LendsValue : (V : RattleType) → MutBor (Table V.Denot) → ℕ → MutBor V.Denot → Fml
LendsValue V table place r = Lends (the_row V) V table r (with_entry_value table.now place)
