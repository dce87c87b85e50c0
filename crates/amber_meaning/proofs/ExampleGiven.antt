-- What operators with two workers have refused: a scan's records by their numbers over both, and keys of a finished worker alone.
use Rattle.std.proofs.Common.{◌≡◌, ℕ, pos, List, [], ◌∷◌, replicate, codes, Bool, true, false, Ok, Err, Result, refl}
use Rattle.amber_rows.specs.declared.agg.Agg.TheVariants as agg
use Rattle.amber_rows.specs.declared.column.ColKind.TheVariants as kind
use Rattle.amber_rows.specs.declared.column.Column.{Column}
use Rattle.amber_rows.specs.declared.flow.What.TheVariants as what
use Rattle.amber_rows.specs.declared.flow.Operator.{Operator}
use Rattle.amber_rows.specs.declared.record.RowFault.{RowFault}
use Rattle.amber_rows.specs.declared.record.RowFault.TheVariants as fault
use Rattle.amber_rows.specs.declared.value.Value.{Value}
use Rattle.amber_rows.specs.declared.value.Value.TheVariants as value
use Rattle.amber_meaning.specs.declared.answer.Refusal.TheVariants as refusal
use Rattle.amber_meaning.specs.Given.{operator_refusals}
use Rattle.amber_meaning.specs.Legal.{Query}
use Rattle.amber_meaning.specs.Position.{Position, origin}
use Rattle.amber_meaning.specs.State.{State, no_arms}
use Rattle.amber_meaning.specs.Views.{by_number, insert_numbered, taken_by}
use Rattle.amber_meaning.proofs.ExampleCases.{positions_on_literals}

abbrev pairs : List Column
pairs = record { name = codes "k"; kind = kind.Text } ∷ record { name = codes "v"; kind = kind.Int } ∷ []

abbrev sums : List Column
sums = record { name = codes "k"; kind = kind.Text } ∷ record { name = codes "sum:v"; kind = kind.Int } ∷ []

abbrev flow : List Operator
flow =
    record { id = codes "o"; what = what.Scan (codes "o.csv"); schema = pairs; workers = 2 }
    ∷ record { id = codes "g"; what = what.Group 1 (1 ∷ []) (agg.Sum 2 ∷ []); schema = sums; workers = 2 }
    ∷ record { id = codes "s"; what = what.Sink 2; schema = sums; workers = 1 } ∷ []

abbrev pair : List ℕ → ℕ → List Value
pair key amount = value.Text key ∷ value.Int (pos amount) ∷ []

-- the records 1 and 3 go to the first worker, 2 and 4 to the second; 2, 3 and 4 have a fault
abbrev records : List (Result (List Value) RowFault)
records = Ok (pair (codes "nut") 1) ∷ Err fault.Width ∷ Err (fault.Int 1) ∷ Err fault.Width ∷ []

abbrev query : Query
query = record { flow = flow; records = records ∷ [] ∷ [] ∷ []; batch_size = 400; most = 1000 }

-- this many records taken
abbrev scanning : ℕ → Position
scanning rows = record origin { constants = replicate rows [] }

-- a group's worker that was handed rows whose sum leaves 64 bits
abbrev grouping : List ℕ → Bool → Position
grouping key over = record origin {
  taken = record { from = 0; batch = record { seq = 0; rows = pair key 9223372036854775807 ∷ pair key 1 ∷ []; last = true } } ∷ [];
  constants = replicate 2 [];
  finished = over;
}

-- the scan's first worker has taken two records, the second this many; the group's workers have both taken all, and one has finished
abbrev state : ℕ → State
state second = record {
  arms = no_arms ∷ no_arms ∷ no_arms ∷ [];
  positions = scanning 2 ∷ scanning second ∷ grouping (codes "nut") true ∷ grouping (codes "bolt") false ∷ origin ∷ [];
}

by_number_over_both_workers : operator_refusals query (state 2) 1 ≡ refusal.Record 1 2 fault.Width ∷ refusal.Record 1 3 (fault.Int 1) ∷ refusal.Record 1 4 fault.Width ∷ []
unfolding positions_on_literals operator_refusals taken_by by_number insert_numbered
by_number_over_both_workers = refl

-- record 4 was not taken yet
of_those_that_were_taken : operator_refusals query (state 1) 1 ≡ refusal.Record 1 2 fault.Width ∷ refusal.Record 1 3 (fault.Int 1) ∷ []
unfolding positions_on_literals operator_refusals taken_by by_number insert_numbered
of_those_that_were_taken = refl

-- the key bolt is refused once its worker finishes
keys_of_the_finished_alone : operator_refusals query (state 2) 2 ≡ refusal.Group 2 (value.Text (codes "nut") ∷ []) ∷ []
unfolding positions_on_literals operator_refusals taken_by by_number insert_numbered
keys_of_the_finished_alone = refl
