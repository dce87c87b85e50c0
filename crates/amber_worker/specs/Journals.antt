-- What a worker's journal is seen as.
use Rattle.std.specs.Prelude.{ℕ, List, Bool}
use Rattle.amber_log.specs.declared.entry.Entry.{Entry}

-- the entries, how many more fit without memory, and whether room for one is kept
pub record JournalState : Type 0 where
  pub entries : List Entry
  pub spare : ℕ
  pub reserved : Bool
