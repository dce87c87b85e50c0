-- What many rows or records give, and whether one of those that come of them holds a worker.
use Rattle.std.specs.List.{flat_map}
use Rattle.std.specs.Prelude.{Bool, List, Ok, Option, [], false, take, ℕ, ◌++◌, ◌∷◌, ◌≡◌}
use Rattle.amber_group.specs.Feeding.{FeedsEach}
use Rattle.amber_group.specs.Group.{Group}
use Rattle.amber_group.specs.Lines.{TakesLineBack}
use Rattle.amber_group.specs.declared.lines.TakenLine.{TakenLine}
use Rattle.amber_meaning.specs.Refused.{refusal_in}
use Rattle.amber_meaning.specs.Rules.{pass_by}
use Rattle.amber_meaning.specs.Task.{Arrival, row_in}
use Rattle.amber_meaning.specs.declared.answer.Refusal.{Refusal}
use Rattle.amber_operators.specs.RowsTaken.{gives_if, keeps_if, passed_of}
use Rattle.amber_operators.specs.States.{Becomes}
use Rattle.amber_operators.specs.declared.letting_by.Gate.{Gate}
use Rattle.amber_operators.specs.declared.operator_state.OperatorState.{OperatorState}
use Rattle.amber_operators.specs.declared.taking_rows.Fate.{Fate}
use Rattle.amber_rows.specs.declared.column.Column.{Column}
use Rattle.amber_rows.specs.declared.cond.Cond.{Cond}
use Rattle.amber_rows.specs.declared.value.Value.{Value}
use Rattle.amber_scan.specs.declared.share.Scanned.{Scanned}
use Rattle.amber_operators.specs.declared.operator_state.OperatorState.TheVariants as operator_state

-- the rows that go on of what is handed, of the build side or not
abbrev pub yielded_by : OperatorState → Bool → List Column → List Arrival → List (List Value)
yielded_by d builds columns arrivals = flat_map (λ one. gives_if d builds (row_in columns one.what)) arrivals

-- the rows that are kept of it
abbrev pub kept_by : OperatorState → List Column → List Arrival → List (List Value)
kept_by d columns arrivals = flat_map (λ one. keeps_if d (row_in columns one.what)) arrivals

-- what a worker keeps for its operator becomes this with it
unfoldable pub BecomesWith : OperatorState → Bool → List Column → List Arrival → OperatorState → Type 0
BecomesWith d builds columns [] now = now ≡ d
BecomesWith d builds columns (one ∷ more) now =
    (next : OperatorState) × Becomes d builds (row_in columns one.what) next × BecomesWith next builds columns more now

-- the rows that go on of the rows of a batch, and those that are kept of them
abbrev pub yielded_of : OperatorState → List Column → List (List Value) → List (List Value)
yielded_of d columns rows = flat_map (λ row. gives_if d false (row_in columns (Ok row))) rows

abbrev pub kept_among : OperatorState → List Column → List (List Value) → List (List Value)
kept_among d columns rows = flat_map (λ row. keeps_if d (row_in columns (Ok row))) rows

-- the rows that go on of the records of a share
abbrev pub yielded_records : List Column → List Scanned → List (List Value)
yielded_records columns records = flat_map (λ one. gives_if operator_state.Scan false (row_in columns one.what)) records

-- what a scan refuses of them
abbrev pub scan_refused : ℕ → List Scanned → List Refusal
scan_refused op records = flat_map (λ one. refusal_in op one.number one.what) records

-- these rows were fed to groups
pub record FeedsGroups (rows : List (List Value)) (old new : OperatorState) : Type 0 where
  pub before : Group
  pub after : Group
  pub was : old ≡ operator_state.Group before
  pub now : new ≡ operator_state.Group after
  pub each : FeedsEach rows before after

-- taking them out leads from the new state back to the old one
pub record TakesFedBack (taken : TakenLine) (old new : OperatorState) : Type 0 where
  pub before : Group
  pub after : Group
  pub was : old ≡ operator_state.Group before
  pub now : new ≡ operator_state.Group after
  pub back : TakesLineBack taken before after

-- the rows that go on of those of which this becomes
unfoldable pub passed_by : List Fate → List (List Value) → List (List Value)
passed_by [] rows = []
passed_by (fate ∷ fates) [] = []
passed_by (fate ∷ fates) (row ∷ rows) = passed_of fate row ++ passed_by fates rows

-- none of these rows that are still to be emitted holds a worker
abbrev pub lets_by : Option Cond → Gate → List (List Value) → Bool
lets_by when gate rows = pass_by when gate.waved (take gate.left rows)
