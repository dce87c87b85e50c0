-- What the taking of a row or a record gives.
use Rattle.std.specs.Prelude.{Bool, List, None, Ok, Option, Some, [], false, ℕ, ◌++◌, ◌∷◌, ◌≡◌}
use Rattle.amber_group.specs.Group.{Group}
use Rattle.amber_join.specs.Join.{Join}
use Rattle.amber_meaning.specs.Refused.{refusal_in}
use Rattle.amber_meaning.specs.Task.{Arrival, row_in}
use Rattle.amber_operators.specs.Keeping.{Feeds, GivesGroups, built_with}
use Rattle.amber_operators.specs.Kept.{Closes, keeps}
use Rattle.amber_operators.specs.States.{Becomes, row_yield}
use Rattle.amber_operators.specs.declared.operator_state.OperatorState.{OperatorState}
use Rattle.amber_operators.specs.declared.taking_rows.Fate.{Fate}
use Rattle.amber_operators.specs.declared.taking_rows.Gains.{Gains}
use Rattle.amber_rows.specs.Operators.{matches_of}
use Rattle.amber_rows.specs.declared.column.Column.{Column}
use Rattle.amber_rows.specs.declared.value.Value.{Value}
use Rattle.amber_scan.specs.declared.share.Scanned.{Scanned}
use Rattle.amber_operators.specs.declared.operator_state.OperatorState.TheVariants as operator_state
use Rattle.amber_operators.specs.declared.taking_rows.Fate.TheVariants as fate

abbrev pub gives_if : OperatorState → Bool → Option (List Value) → List (List Value)
gives_if operator_state builds None = []
gives_if operator_state builds (Some row) = row_yield operator_state builds row

abbrev pub keeps_if : OperatorState → Option (List Value) → List (List Value)
keeps_if operator_state None = []
keeps_if operator_state (Some row) = keeps operator_state row

-- what becomes of a row: the rows that go on
abbrev pub passed_of : Fate → List Value → List (List Value)
passed_of fate.Dropped row = []
passed_of fate.Passed row = row ∷ []
passed_of (fate.Made other) row = other ∷ []

-- the same lists
pub record AreSame (old new : Gains) : Type 0 where
  pub pending : new.pending ≡ old.pending
  pub refused : new.refused.items ≡ old.refused.items
  pub kept : new.kept.items ≡ old.kept.items

-- what is left of what was handed, and what it has given
pub record Taking (A : Type 0) : Type 0 where
  pub left : List A
  pub gains : Gains

-- a record was taken of a share: what it gives is after what was there
pub record GainsRecord (op : ℕ) (columns : List Column) (old new : Taking Scanned) : Type 0 where
  pub one : Scanned
  pub first : old.left ≡ one ∷ new.left
  pub pending : new.gains.pending ≡ old.gains.pending ++ gives_if operator_state.Scan false (row_in columns one.what)
  pub refused : new.gains.refused.items ≡ old.gains.refused.items ++ refusal_in op one.number one.what
  pub kept : new.gains.kept.items ≡ old.gains.kept.items

-- a row was taken of a batch
pub record GainsRow (d : OperatorState) (columns : List Column) (old new : Taking (List Value)) : Type 0 where
  pub row : List Value
  pub first : old.left ≡ row ∷ new.left
  pub pending : new.gains.pending ≡ old.gains.pending ++ gives_if d false (row_in columns (Ok row))
  pub refused : new.gains.refused.items ≡ old.gains.refused.items
  pub kept : new.gains.kept.items ≡ old.gains.kept.items ++ keeps_if d (row_in columns (Ok row))

-- the rows of a batch, what is kept of the rows before them, and the rows that are pending
pub record Working (A : Type 0) : Type 0 where
  pub rows : List (List Value)
  pub state : A
  pub pending : List (List Value)

-- the first row was kept of the build side
pub record Builds (rows : List (List Value)) (old : Join) (later : List (List Value)) (new : Join) : Type 0 where
  pub row : List Value
  pub first : rows ≡ row ∷ later
  pub state : new ≡ record old { rows = old.rows ++ row ∷ [] }

-- the matches of the first row are pending
pub record Probes (old new : Working Join) : Type 0 where
  pub row : List Value
  pub first : old.rows ≡ row ∷ new.rows
  pub pending_so : new.pending ≡ old.pending ++ matches_of old.state.build_keys old.state.probe_keys old.state.rows row

-- the first row was taken by a join
pub record JoinsRow (columns : List Column) (builds : Bool) (old new : Working Join) : Type 0 where
  pub row : List Value
  pub first : old.rows ≡ row ∷ new.rows
  pub state : new.state ≡ built_with builds (row_in columns (Ok row)) old.state
  pub pending_so : new.pending ≡ old.pending ++ gives_if (operator_state.Join old.state) builds (row_in columns (Ok row))

-- the rows of the groups are pending too, once nothing more can come
pub record AddsGroups (state : Group) (over : Bool) (pending after : List (List Value)) : Type 0 where
  pub last : List (List Value)
  pub closes : GivesGroups state over last
  pub pending_so : after ≡ pending ++ last

-- the first row was taken by a group, the last one where nothing more can come
pub record GroupsRow (columns : List Column) (over : Bool) (old new : Working Group) : Type 0 where
  pub row : List Value
  pub first : old.rows ≡ row ∷ new.rows
  pub feeds : Feeds (row_in columns (Ok row)) old.state new.state
  pub adds : AddsGroups new.state over old.pending new.pending

-- how the next is taken: with which columns, of the build side or not, and whether nothing more can come
pub record Manner : Type 0 where
  pub columns : List Column
  pub builds : Bool
  pub over : Bool

-- what is left of what was handed, what is kept for the operator, and what was given
pub record Advance (A : Type 0) : Type 0 where
  pub left : List A
  pub state : OperatorState
  pub gains : Gains

-- the first row of a batch was taken
pub record GainsAny (how : Manner) (old new : Advance (List Value)) : Type 0 where
  pub row : List Value
  pub first : old.left ≡ row ∷ new.left
  pub becomes : Becomes old.state how.builds (row_in how.columns (Ok row)) new.state
  pub last : List (List Value)
  pub closes : Closes new.state how.over last
  pub pending : new.gains.pending ≡ (old.gains.pending ++ gives_if old.state how.builds (row_in how.columns (Ok row))) ++ last
  pub refused : new.gains.refused.items ≡ old.gains.refused.items
  pub kept : new.gains.kept.items ≡ old.gains.kept.items ++ keeps_if old.state (row_in how.columns (Ok row))

-- the next of what was handed was taken, the last one where nothing more can come
pub record GainsNext (op : ℕ) (how : Manner) (old new : Advance Arrival) : Type 0 where
  pub one : Arrival
  pub first : old.left ≡ one ∷ new.left
  pub becomes : Becomes old.state how.builds (row_in how.columns one.what) new.state
  pub last : List (List Value)
  pub closes : Closes new.state how.over last
  pub pending : new.gains.pending ≡ (old.gains.pending ++ gives_if old.state how.builds (row_in how.columns one.what)) ++ last
  pub refused : new.gains.refused.items ≡ old.gains.refused.items ++ refusal_in op one.from one.what
  pub kept : new.gains.kept.items ≡ old.gains.kept.items ++ keeps_if old.state (row_in how.columns one.what)
