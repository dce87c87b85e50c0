-- What an operator is handed: the records of a share, or the rows of a batch.
use Rattle.std.specs.Prelude.{List, None, Ok, Option, Some, map, ℕ}
use Rattle.amber_meaning.specs.Task.{Arrival}
use Rattle.amber_operators.specs.declared.taking_rows.Rest.{Rest}
use Rattle.amber_rows.specs.declared.value.Value.{Value}
use Rattle.amber_scan.specs.Shares.{ShareState}
use Rattle.amber_scan.specs.declared.share.Scanned.{Scanned}

-- a row as it was handed by a sender
abbrev pub row_from : ℕ → List Value → Arrival
row_from sender row = record { from = sender; what = Ok row }

-- a record of a scan's share as what is handed
abbrev pub arrival_of : Scanned → Arrival
arrival_of one = record { from = one.number; what = one.what }

-- what is left: of a scan's share, or of the rows that a sender gave
abbrev pub rest_in : Option ShareState → ℕ → List (List Value) → List Arrival
rest_in None sender rows = map (row_from sender) rows
rest_in (Some share) sender rows = map arrival_of share.left

abbrev pub arrivals_in : Rest → List Arrival
arrivals_in rest = rest_in rest.share rest.from rest.rows.items
