-- Laws of the log's text.
use Rattle.std.specs.Prelude.{◌≡◌, ℕ, List, [], ◌++◌, take, Ok, ◌⊎◌, ◌↔◌}
use Rattle.amber_log.specs.Grammar.{IsItem, IsLog}
use Rattle.amber_log.specs.LogText.{item_text, log_text}
use Rattle.amber_log.specs.ReadAs.{IsReadAs, read_of}
use Rattle.amber_log.specs.ReadLines.{empty_log}
use Rattle.amber_log.specs.declared.log.Item.{Item}
use Rattle.amber_log.specs.declared.log.Log.{Log}

-- the log of the first of a log's items
abbrev pub first_items : ℕ → Log → Log
first_items count log = record { batch = log.batch; items = take count log.items }

-- nothing of the log, or the first of its items
abbrev pub IsFrontOf : Log → Log → Type 0
IsFrontOf log read = (read ≡ empty_log) ⊎ ((count : ℕ) × (read ≡ first_items count log))

-- these bytes are read, as no other items than the log's first ones
pub record ReadsFront (log : Log) (bytes : List ℕ) : Type 0 where
  pub read : Log
  pub found : read_of bytes ≡ Ok read
  pub exact : IsReadAs bytes read
  pub front : IsFrontOf log read

-- every beginning of a log's text reads as the log's first items
abbrev pub FrontsAreRead : Type 0
FrontsAreRead = (log : Log) (bytes rest : List ℕ) → IsLog log → bytes ++ rest ≡ log_text log → ReadsFront log bytes

-- no item's text is a proper beginning of another's
abbrev pub NoItemBeginsAnother : Type 0
NoItemBeginsAnother = (one other : Item) (rest : List ℕ) → IsItem one → IsItem other → item_text one ++ rest ≡ item_text other → rest ≡ []

-- two logs of one text are the same
abbrev pub EachHasItsText : Type 0
EachHasItsText = (one other : Log) → IsLog one → IsLog other → log_text one ≡ log_text other → one ≡ other

-- the log that is read of a file is the one that stands in it
abbrev pub ReadsWhatStands : Type 0
ReadsWhatStands = (bytes : List ℕ) (log : Log) → (read_of bytes ≡ Ok log) ↔ IsReadAs bytes log
