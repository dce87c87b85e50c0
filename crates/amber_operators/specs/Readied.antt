-- How the next row or record is made ready to be taken, before it is known whether it may be.
use Rattle.std.specs.Prelude.{List, None, Ok, Some, [], true, vec_capacity, vec_len, ◌++◌, ◌<◌, ◌∷◌, ◌≡◌}
use Rattle.std.specs.VecDeque.{deque_capacity, deque_len}
use Rattle.amber_group.specs.Group.{Group}
use Rattle.amber_group.specs.Undoing.{Before, TakesBack}
use Rattle.amber_join.specs.Join.{CameLast, Join}
use Rattle.amber_link.specs.Links.{has_some}
use Rattle.amber_meaning.specs.Task.{Arrival, row_in}
use Rattle.amber_operators.specs.Handed.{arrivals_in, row_from}
use Rattle.amber_operators.specs.Keeping.{Feeds, GivesGroups}
use Rattle.amber_operators.specs.RowsTaken.{Advance, AreSame, Manner, gives_if, keeps_if, passed_of}
use Rattle.amber_operators.specs.Kept.{Closes}
use Rattle.amber_operators.specs.States.{Becomes}
use Rattle.amber_operators.specs.declared.operator_state.OperatorState.{OperatorState}
use Rattle.amber_operators.specs.declared.readied.Readied.{Readied}
use Rattle.amber_operators.specs.declared.taking_rows.Gains.{Gains}
use Rattle.amber_operators.specs.declared.taking_rows.Rest.{Rest}
use Rattle.amber_rows.specs.declared.value.Value.{Value}
use Rattle.amber_scan.specs.Shares.{ShareState}
use Rattle.amber_operators.specs.declared.operator_state.OperatorState.TheVariants as operator_state
use Rattle.amber_operators.specs.declared.readied.Readied.TheVariants as readied

-- what is at hand: what is left, what is kept for the operator, and what was given
pub record AtHand : Type 0 where
  pub rest : Rest
  pub state : OperatorState
  pub gains : Gains

-- the record is read ahead, so that it is taken without memory; there is room for why it is none
pub record IsRecordReady (how : Manner) (before : Advance Arrival) (now : AtHand) : Type 0 where
  pub share : ShareState
  pub shared : now.rest.share ≡ Some share
  pub typed : share.columns ≡ how.columns
  pub some : has_some share.left ≡ true
  pub ready : 0 < share.ready
  pub room : vec_len now.gains.refused < vec_capacity now.gains.refused
  pub scan : now.state ≡ operator_state.Scan
  pub left : arrivals_in now.rest ≡ before.left
  pub state : now.state ≡ before.state

-- this row is at the front of the batch, and none is of a share
pub record IsNextRow (row : List Value) (rest : Rest) : Type 0 where
  pub batch : rest.share ≡ None
  pub later : List (List Value)
  pub first : rest.rows.items ≡ row ∷ later

-- the row at the front leaves what is kept as it is, and these rows come of it
pub record IsRowReady (how : Manner) (before : Advance Arrival) (now : AtHand)
    (given : List Value → List (List Value)) : Type 0 where
  pub row : List Value
  pub next : IsNextRow row now.rest
  pub becomes : Becomes now.state how.builds (row_in how.columns (Ok row)) now.state
  pub last : List (List Value)
  pub closes : Closes now.state how.over last
  pub gives : given row ≡ gives_if now.state how.builds (row_in how.columns (Ok row)) ++ last
  pub keeps : keeps_if now.state (row_in how.columns (Ok row)) ≡ []
  pub left : arrivals_in now.rest ≡ before.left
  pub state : now.state ≡ before.state

-- the row at the front is kept for the answer, for which there is room
pub record IsKeptReady (how : Manner) (before : Advance Arrival) (now : AtHand) : Type 0 where
  pub row : List Value
  pub next : IsNextRow row now.rest
  pub sink : now.state ≡ operator_state.Sink
  pub suits : row_in how.columns (Ok row) ≡ Some row
  pub room : vec_len now.gains.kept < vec_capacity now.gains.kept
  pub left : arrivals_in now.rest ≡ before.left
  pub state : now.state ≡ before.state

-- the first row was moved into the join, where it is the last of the build side; there is room for
-- it where it was
pub record IsBuiltReady (how : Manner) (before : Advance Arrival) (now : AtHand)
    (key : List Value) : Type 0 where
  pub row : List Value
  pub old : Join
  pub new : Join
  pub batch : now.rest.share ≡ None
  pub room : deque_len now.rest.rows < deque_capacity now.rest.rows
  pub builds : how.builds ≡ true
  pub suits : row_in how.columns (Ok row) ≡ Some row
  pub was : before.state ≡ operator_state.Join old
  pub built : new ≡ record old { rows = old.rows ++ row ∷ [] }
  pub came : CameLast key new
  pub left : before.left ≡ row_from now.rest.from row ∷ arrivals_in now.rest
  pub state : now.state ≡ operator_state.Join new

-- the row at the front was fed to the groups, and can be taken out of them; then these rows are
-- given
pub record IsGroupedReady (how : Manner) (before : Advance Arrival) (now : AtHand)
    (taken : Before) (given : List (List Value)) : Type 0 where
  pub row : List Value
  pub old : Group
  pub new : Group
  pub next : IsNextRow row now.rest
  pub was : before.state ≡ operator_state.Group old
  pub feeds : Feeds (row_in how.columns (Ok row)) old new
  pub back : TakesBack taken old new
  pub closes : GivesGroups new how.over given
  pub left : arrivals_in now.rest ≡ before.left
  pub state : now.state ≡ operator_state.Group new

-- what stands by what is ready
abbrev pub StandsReady : Manner → Advance Arrival → AtHand → Readied → Type 0
StandsReady how before now readied.Record = IsRecordReady how before now
StandsReady how before now (readied.Row fate) = IsRowReady how before now (passed_of fate)
StandsReady how before now readied.Kept = IsKeptReady how before now
StandsReady how before now (readied.Rows made) = IsRowReady how before now (λ row. made.items)
StandsReady how before now (readied.Built staged) = IsBuiltReady how before now staged
StandsReady how before now (readied.Grouped taken made) =
    IsGroupedReady how before now taken made.items

-- the next is ready to be taken so, and nothing is given yet
pub record IsReadied (how : Manner) (before : Advance Arrival) (now : AtHand)
    (readied : Readied) : Type 0 where
  pub stands : StandsReady how before now readied
  pub none : now.gains.pending ≡ []
  pub gains : AreSame before.gains now.gains

-- something is ready, whatever there was before
abbrev pub HasReadied : AtHand → Readied → Type 0
HasReadied now readied =
    (how : Manner) × (before : Advance Arrival) × IsReadied how before now readied
