-- The records of a file with their numbers, and what is left of them to a worker.
use Rattle.std.specs.Prelude.{◌≡◌, ℕ, zero, suc, ◌-◌, List, [], ◌∷◌, map, Result, Ok, Err, true}
use Rattle.amber_rows.specs.Lists.{later_of}
use Rattle.amber_rows.specs.Record.{row_of, typed_records}
use Rattle.amber_rows.specs.Shares.{with_numbers}
use Rattle.amber_rows.specs.Suits.{suits_of}
use Rattle.amber_rows.specs.declared.value.Value.{Value}
use Rattle.amber_rows.specs.declared.column.Column.{Column}
use Rattle.amber_rows.specs.declared.record.RowFault.{RowFault}
use Rattle.amber_scan.specs.declared.share.Scanned.{Scanned}

-- ---- records with their numbers

-- a typed record and its number
abbrev pub scanned_record : ℕ → Result (List Value) RowFault → Scanned
scanned_record number what = record { number = number; what = what }

abbrev pub scanned_number : Scanned → ℕ
scanned_number one = one.number

-- the typed records of a file with their numbers, from 1 on
abbrev pub scanned_records : List Column → List ℕ → List Scanned
scanned_records columns bytes = with_numbers scanned_record 1 (typed_records columns bytes)

-- the same of records of which the first is the header
abbrev pub scanned_of : List Column → List (List (List ℕ)) → List Scanned
scanned_of columns records = with_numbers scanned_record 1 (map (row_of columns) (later_of records))

-- ---- a share of them

-- after `skip` elements the next one, and each that stands `step` places after one of these
unfoldable pub every : {A : Type 0} → ℕ → ℕ → List A → List A
every step skip [] = []
every step zero (x ∷ xs) = x ∷ every step (step - 1) xs
every step (suc skip) (x ∷ xs) = every step skip xs

-- what a worker has not taken yet: the records that are left, how many of them it may take without memory, and by which columns they
-- are typed
pub record ShareState : Type 0 where
  pub left : List Scanned
  pub ready : ℕ
  pub columns : List Column

-- a typed record has a cell for each of these columns, of its kind, if it is a row
abbrev pub Suits : List Column → Result (List Value) RowFault → Type 0
Suits columns (Ok row) = suits_of columns row ≡ true
Suits columns (Err fault) = Unit {0}
