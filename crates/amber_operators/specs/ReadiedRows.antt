-- How several rows or records are made ready to be taken, before it is known whether they may be, and what taking them gives.
use Rattle.std.specs.Prelude.{Bool, List, None, Some, drop, length, take, true, vec_capacity, vec_len, ℕ, ◌++◌, ◌+◌, ◌-◌, ◌≡◌, ◌≤◌}
use Rattle.amber_meaning.specs.Refused.{refused_in}
use Rattle.amber_meaning.specs.Task.{Arrival}
use Rattle.amber_operators.specs.Handed.{arrivals_in}
use Rattle.amber_operators.specs.ManyRows.{BecomesWith, kept_by, passed_by, yielded_by, yielded_of, yielded_records}
use Rattle.amber_operators.specs.Kept.{IsSealedSo, is_plain, keeps_build_side, keeps_still}
use Rattle.amber_operators.specs.declared.operator_state.OperatorState.{OperatorState}
use Rattle.amber_operators.specs.declared.readied_rows.ReadiedRows.{ReadiedRows}
use Rattle.amber_operators.specs.declared.redone_joins.MadeRows.{MadeRows}
use Rattle.amber_operators.specs.declared.redone_rows.Fates.{Fates}
use Rattle.amber_operators.specs.declared.taking_rows.Gains.{Gains}
use Rattle.amber_operators.specs.declared.taking_rows.Rest.{Rest}
use Rattle.amber_rows.specs.declared.column.Column.{Column}
use Rattle.amber_rows.specs.declared.value.Value.{Value}
use Rattle.amber_scan.specs.Shares.{ShareState}
use Rattle.amber_operators.specs.declared.operator_state.OperatorState.TheVariants as operator_state
use Rattle.amber_operators.specs.declared.readied_rows.ReadiedRows.TheVariants as readied_rows

-- which rows are taken: how many, their columns, whether they are of the build side, and what is done with them
pub record Reading : Type 0 where
  pub count : ℕ
  pub columns : List Column
  pub builds : Bool
  pub state : OperatorState

abbrev pub reading_with : ℕ → List Column → Bool → OperatorState → Reading
reading_with count columns builds state = record { count = count; columns = columns; builds = builds; state = state }

-- so many records of a share are read ahead, of which so many rows come, and so many of all but the last
pub record AreRecordsReady (how : Reading) (rest : Rest) (before made : ℕ) : Type 0 where
  pub share : ShareState
  pub shared : rest.share ≡ Some share
  pub typed : share.columns ≡ how.columns
  pub scan : how.state ≡ operator_state.Scan
  pub ready : how.count ≤ share.ready
  pub there : how.count ≤ length share.left
  pub before_so : before ≡ length (yielded_records how.columns (take (how.count - 1) share.left))
  pub made_so : made ≡ length (yielded_records how.columns (take how.count share.left))

-- this becomes of so many rows of the batch
pub record AreRowsReady (how : Reading) (rest : Rest) (fates : Fates) : Type 0 where
  pub batch : rest.share ≡ None
  pub plain : is_plain how.state ≡ true
  pub there : how.count ≤ length rest.rows.items
  pub each : length fates.each.items ≡ how.count
  pub yields : passed_by fates.each.items rest.rows.items ≡ yielded_of how.state how.columns (take how.count rest.rows.items)
  pub before_so : fates.before ≡ length (yielded_of how.state how.columns (take (how.count - 1) rest.rows.items))
  pub made_so : fates.made ≡ length (yielded_of how.state how.columns (take how.count rest.rows.items))

-- so many rows of the batch are kept for the answer, if they suit
pub record AreKeptReady (how : Reading) (rest : Rest) : Type 0 where
  pub batch : rest.share ≡ None
  pub sink : how.state ≡ operator_state.Sink
  pub there : how.count ≤ length rest.rows.items

-- these rows come of so many rows of the batch, which is of the probe side
pub record AreMadeReady (how : Reading) (rest : Rest) (made : MadeRows) : Type 0 where
  pub batch : rest.share ≡ None
  pub still : keeps_still how.state how.builds ≡ true
  pub probes : keeps_build_side how.state ≡ true
  pub there : how.count ≤ length rest.rows.items
  pub yields : made.rows.items ≡ yielded_of how.state how.columns (take how.count rest.rows.items)
  pub before_so : made.before ≡ length (yielded_of how.state how.columns (take (how.count - 1) rest.rows.items))

-- so many rows of the batch are of the build side of a join
pub record AreBuiltReady (how : Reading) (rest : Rest) : Type 0 where
  pub batch : rest.share ≡ None
  pub there : how.count ≤ length rest.rows.items
  pub joins : keeps_build_side how.state ≡ true
  pub side : how.builds ≡ true
  pub sealed : IsSealedSo how.state how.builds

-- what stands by what is ready
abbrev pub AreReadied : Reading → Rest → ReadiedRows → Type 0
AreReadied how rest (readied_rows.Records before made) = AreRecordsReady how rest before made
AreReadied how rest (readied_rows.Rows fates) = AreRowsReady how rest fates
AreReadied how rest readied_rows.Kept = AreKeptReady how rest
AreReadied how rest (readied_rows.Made made) = AreMadeReady how rest made
AreReadied how rest readied_rows.Built = AreBuiltReady how rest

-- the rows that come of so many of these
abbrev pub yielded_to : Reading → List Arrival → List (List Value)
yielded_to how arrivals = yielded_by how.state how.builds how.columns (take how.count arrivals)

-- there is room for what is kept of what is ready
abbrev pub HaveRoom : ℕ → Gains → ReadiedRows → Type 0
HaveRoom count gains (readied_rows.Records before made) = vec_len gains.refused + count ≤ vec_capacity gains.refused
HaveRoom count gains (readied_rows.Rows fates) = Unit {0}
HaveRoom count gains readied_rows.Kept = vec_len gains.kept + count ≤ vec_capacity gains.kept
HaveRoom count gains (readied_rows.Made made) = Unit {0}
HaveRoom count gains readied_rows.Built = Unit {0}

-- how many rows come of what is ready at most
abbrev pub most_made : ReadiedRows → ℕ → ℕ
most_made (readied_rows.Records before made) count = count
most_made (readied_rows.Rows fates) count = count
most_made readied_rows.Kept count = count
most_made (readied_rows.Made made) count = length made.rows.items
most_made readied_rows.Built count = count

-- what is left, and what is kept for the operator, did not change
pub record IsUnfed (how : Reading) (before now : Rest) (state : OperatorState) : Type 0 where
  pub rest : now ≡ before
  pub state_so : state ≡ how.state

-- the rows are kept of the build side, and no longer left
pub record HasBuilt (how : Reading) (before now : Rest) (state : OperatorState) : Type 0 where
  pub left : arrivals_in now ≡ drop how.count (arrivals_in before)
  pub becomes : BecomesWith how.state how.builds how.columns (take how.count (arrivals_in before)) state

-- what is ready was kept for the operator, if it is to be
abbrev pub FeedsReadied : Reading → Rest → Rest → OperatorState → ReadiedRows → Type 0
FeedsReadied how before now state (readied_rows.Records before_last made) = IsUnfed how before now state
FeedsReadied how before now state (readied_rows.Rows fates) = IsUnfed how before now state
FeedsReadied how before now state readied_rows.Kept = IsUnfed how before now state
FeedsReadied how before now state (readied_rows.Made made) = IsUnfed how before now state
FeedsReadied how before now state readied_rows.Built = HasBuilt how before now state

-- what is left of what was handed, the rows that are pending, and what is kept for the answer
pub record Holding : Type 0 where
  pub left : List Arrival
  pub pending : List (List Value)
  pub gains : Gains

-- the first so many of what was handed were taken
pub record GainsAll (op : ℕ) (how : Reading) (old new : Holding) : Type 0 where
  pub left : new.left ≡ drop how.count old.left
  pub pending : new.pending ≡ old.pending ++ yielded_to how old.left
  pub same : new.gains.pending ≡ old.gains.pending
  pub refused : new.gains.refused.items ≡ old.gains.refused.items ++ refused_in op (take how.count old.left)
  pub kept : new.gains.kept.items ≡ old.gains.kept.items ++ kept_by how.state how.columns (take how.count old.left)
