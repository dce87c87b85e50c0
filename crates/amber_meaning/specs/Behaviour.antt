-- What there is to say of a kind of operator.
use Rattle.std.specs.Prelude.{ℕ, List, [], Result}
use Rattle.amber_rows.specs.declared.value.Value.{Value}
use Rattle.amber_rows.specs.declared.record.RowFault.{RowFault}
use Rattle.amber_meaning.specs.declared.answer.Refusal.{Refusal}
use Rattle.amber_meaning.specs.declared.view.Extra.{Extra}
use Rattle.amber_meaning.specs.declared.view.Extra.TheVariants as extra
use Rattle.amber_meaning.specs.Task.{Arrival, Task}

pub record Behaviour : Type 0 where
  -- its word in the text of an inspection
  pub word : List ℕ
  -- the rows that it gives, from the typed records of its file and the rows of the operators before it
  pub rows : List (Result (List Value) RowFault) → List (List (List Value)) → List (List Value)
  -- what it refuses of these, where this is its number
  pub refusals : ℕ → List (Result (List Value) RowFault) → List (List (List Value)) → List Refusal
  -- the rows that a row of this sender yields under these constants, where these were handed before it
  pub yields : Task → List Arrival → ℕ → List Value → List Value → List (List Value)
  -- the rows that the end yields, of all rows that were handed
  pub closing : List (List Value) → List (List Value)
  -- the rows that a worker keeps for the answer, of what it took
  pub kept : Task → List Arrival → List (List Value)
  -- the keys of a worker's groups that have no row, once all was taken
  pub keys_refused : Task → List Arrival → List (List Value)
  -- what a worker shows that took these
  pub shows : Task → List Arrival → Extra

-- nothing is given, kept, refused or shown: each kind says in what it differs
abbrev pub nothing : Behaviour
nothing = record {
  word = [];
  rows = λ records before. [];
  refusals = λ op records before. [];
  yields = λ task before from constants row. [];
  closing = λ rows. [];
  kept = λ task arrivals. [];
  keys_refused = λ task arrivals. [];
  shows = λ task arrivals. extra.Nothing;
}
