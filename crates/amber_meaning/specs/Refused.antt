-- What is refused: records with a fault, and the keys of groups that have no row.
use Rattle.std.specs.Prelude.{ℕ, ◌+◌, List, [], ◌∷◌, map, Result, Ok, Err}
use Rattle.std.specs.List.{flat_map}
use Rattle.amber_rows.specs.Order.{sort_rows}
use Rattle.amber_rows.specs.declared.value.Value.{Value}
use Rattle.amber_rows.specs.declared.record.RowFault.{RowFault}
use Rattle.amber_meaning.specs.declared.answer.Refusal.{Refusal}
use Rattle.amber_meaning.specs.declared.answer.Refusal.TheVariants as refusal
use Rattle.amber_meaning.specs.Task.{Arrival}

-- the records that have a fault, by their numbers from this one on
unfoldable pub refused_records : ℕ → ℕ → List (Result (List Value) RowFault) → List Refusal
refused_records op number [] = []
refused_records op number (Ok row ∷ more) = refused_records op (number + 1) more
refused_records op number (Err why ∷ more) = refusal.Record op number why ∷ refused_records op (number + 1) more

-- the keys of groups that have no row, in the order of rows
abbrev pub refused_groups : ℕ → List (List Value) → List Refusal
refused_groups op keys = map (refusal.Group op) (sort_rows keys)

-- the records that have a fault, as refused by an operator
abbrev pub refusal_in : ℕ → ℕ → Result (List Value) RowFault → List Refusal
refusal_in op number (Ok row) = []
refusal_in op number (Err why) = refusal.Record op number why ∷ []

abbrev pub refused_in : ℕ → List Arrival → List Refusal
refused_in op arrivals = flat_map (λ one. refusal_in op one.from one.what) arrivals
