-- A cell in the place of another.
use Rattle.std.specs.Prelude.{◌≡◌, Result, Ok, Err}
use Rattle.amber_rows.specs.declared.value.Value.{Value}
use Rattle.amber_rows.specs.declared.record.RowFault.{RowFault}

-- the cell that was typed stands in this place, or its fault was answered
abbrev pub IsPut : {A : Type 0} → Result A RowFault → Value → Result Value RowFault → Type 0
IsPut (Ok x) place typed = typed ≡ Ok place
IsPut (Err why) place typed = typed ≡ Err why
