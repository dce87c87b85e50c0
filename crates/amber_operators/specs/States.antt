-- The kinds of operators: what each keeps, and what it does with the rows that it is handed. No other definition of this crate, or
-- of amber_worker, tells a kind from the others.
use Rattle.std.specs.Prelude.{Bool, List, Option, Some, None, [], false, if◌then◌else◌, length, true, ℕ, ◌∷◌, ◌≡◌}
use Rattle.amber_group.specs.Group.{Group, IsFedWith}
use Rattle.amber_join.specs.Join.{Join}
use Rattle.amber_meaning.specs.Kinds.Filter.{with_constant}
use Rattle.amber_meaning.specs.Task.{Role}
use Rattle.amber_meaning.specs.declared.view.Extra.{Extra}
use Rattle.amber_operators.specs.Keeping.{Feeds, built_with}
use Rattle.amber_operators.specs.declared.operator_state.OperatorState.{OperatorState}
use Rattle.amber_rows.specs.Cond.{holds_of}
use Rattle.amber_rows.specs.Operators.{first_keys, matches_of, pick_cells}
use Rattle.amber_rows.specs.declared.flow.What.{What}
use Rattle.amber_rows.specs.declared.value.Value.{Value}
use Rattle.amber_meaning.specs.declared.view.Extra.TheVariants as extra
use Rattle.amber_operators.specs.declared.operator_state.OperatorState.TheVariants as operator_state
use Rattle.amber_rows.specs.declared.flow.What.TheVariants as what

-- what a worker does is what the workflow says
abbrev pub IsOperatorStateOf : OperatorState → What → Type 0
IsOperatorStateOf operator_state.Scan (what.Scan file) = Unit {0}
IsOperatorStateOf (operator_state.Filter cond) (what.Filter input own) = cond ≡ own
IsOperatorStateOf (operator_state.Project from) (what.Project input columns) = from ≡ columns
IsOperatorStateOf (operator_state.Join state) (what.Join build probe build_keys probe_keys) =
    state ≡ record { build_keys = build_keys; probe_keys = probe_keys; rows = []; sealed = false }
IsOperatorStateOf (operator_state.Group state) (what.Group input keys aggs) = (state.keys ≡ keys) × (state.aggs ≡ aggs) × IsFedWith state []
IsOperatorStateOf operator_state.Sink (what.Sink input) = Unit {0}
IsOperatorStateOf _ _ = ⊥

-- it is that of a scan
abbrev pub IsScan : OperatorState → Type 0
IsScan d = d ≡ operator_state.Scan

-- that of no operator: nothing is kept
abbrev pub no_operator_state : OperatorState
no_operator_state = operator_state.Sink

-- what a worker does is what its role says, under these constants
abbrev pub DoesKind : OperatorState → What → List Value → Role → Type 0
DoesKind operator_state.Scan (what.Scan file) constants role = role.senders ≡ []
DoesKind (operator_state.Filter cond) (what.Filter input own) constants role = cond ≡ with_constant own constants
DoesKind (operator_state.Project from) (what.Project input columns) constants role = from ≡ columns
DoesKind (operator_state.Join state) (what.Join build probe build_keys probe_keys) constants role = (state.build_keys ≡ build_keys) × (state.probe_keys ≡ probe_keys)
DoesKind (operator_state.Group state) (what.Group input keys aggs) constants role = (state.keys ≡ keys) × (state.aggs ≡ aggs)
DoesKind operator_state.Sink (what.Sink input) constants role = Unit {0}
DoesKind _ _ constants role = ⊥

-- ---- what it keeps of its rows

-- the build side that is kept, of a join
abbrev pub join_kept : OperatorState → Option Join
join_kept operator_state.Scan = None
join_kept (operator_state.Filter cond) = None
join_kept (operator_state.Project from) = None
join_kept (operator_state.Join state) = Some state
join_kept (operator_state.Group state) = None
join_kept operator_state.Sink = None

-- the groups that are kept, of a group
abbrev pub groups_kept : OperatorState → Option Group
groups_kept operator_state.Scan = None
groups_kept (operator_state.Filter cond) = None
groups_kept (operator_state.Project from) = None
groups_kept (operator_state.Join state) = None
groups_kept (operator_state.Group state) = Some state
groups_kept operator_state.Sink = None

-- rows are kept for the answer, of a sink
abbrev pub keeps_answer : OperatorState → Bool
keeps_answer operator_state.Scan = false
keeps_answer (operator_state.Filter cond) = false
keeps_answer (operator_state.Project from) = false
keeps_answer (operator_state.Join state) = false
keeps_answer (operator_state.Group state) = false
keeps_answer operator_state.Sink = true

-- ---- a row

-- the rows that go on of a row that suits, of the build side or not
abbrev pub row_yield : OperatorState → Bool → List Value → List (List Value)
row_yield operator_state.Scan builds row = row ∷ []
row_yield (operator_state.Filter cond) builds row = if holds_of cond row then row ∷ [] else []
row_yield (operator_state.Project from) builds row = pick_cells from row ∷ []
row_yield (operator_state.Join state) builds row = if builds then [] else matches_of state.build_keys state.probe_keys state.rows row
row_yield (operator_state.Group state) builds row = []
row_yield operator_state.Sink builds row = []

-- what a worker keeps of the rows that it took becomes this with another row
abbrev pub Becomes : OperatorState → Bool → Option (List Value) → OperatorState → Type 0
Becomes operator_state.Scan builds found new = new ≡ operator_state.Scan
Becomes (operator_state.Filter cond) builds found new = new ≡ operator_state.Filter cond
Becomes (operator_state.Project from) builds found new = new ≡ operator_state.Project from
Becomes (operator_state.Join state) builds found new = new ≡ operator_state.Join (built_with builds found state)
Becomes (operator_state.Group state) builds found new = (now : Group) × (new ≡ operator_state.Group now) × Feeds found state now
Becomes operator_state.Sink builds found new = new ≡ operator_state.Sink

-- ---- a batch

-- the batches at hand are of the build side, or of the other: then what a join keeps is sealed
abbrev pub turned_to : Bool → OperatorState → OperatorState
turned_to builds operator_state.Scan = operator_state.Scan
turned_to builds (operator_state.Filter cond) = operator_state.Filter cond
turned_to builds (operator_state.Project from) = operator_state.Project from
turned_to builds (operator_state.Join state) = operator_state.Join (if builds then state else record state { sealed = true })
turned_to builds (operator_state.Group state) = operator_state.Group state
turned_to builds operator_state.Sink = operator_state.Sink

-- ---- what is set and shown

-- a filter with another constant
abbrev pub with_value : Value → OperatorState → OperatorState
with_value value operator_state.Scan = operator_state.Scan
with_value value (operator_state.Filter cond) = operator_state.Filter (record cond { constant = value })
with_value value (operator_state.Project from) = operator_state.Project from
with_value value (operator_state.Join state) = operator_state.Join state
with_value value (operator_state.Group state) = operator_state.Group state
with_value value operator_state.Sink = operator_state.Sink

-- the constant that rows are compared with
abbrev pub constants_in : OperatorState → List Value
constants_in operator_state.Scan = []
constants_in (operator_state.Filter cond) = cond.constant ∷ []
constants_in (operator_state.Project from) = []
constants_in (operator_state.Join state) = []
constants_in (operator_state.Group state) = []
constants_in operator_state.Sink = []

-- what a worker shows by what it does
abbrev pub IsExtra : OperatorState → ℕ → ℕ → Extra → Type 0
IsExtra operator_state.Scan refused kept shown = shown ≡ extra.Scan refused
IsExtra (operator_state.Filter cond) refused kept shown = shown ≡ extra.Nothing
IsExtra (operator_state.Project from) refused kept shown = shown ≡ extra.Nothing
IsExtra (operator_state.Join state) refused kept shown = shown ≡ extra.Join (length (first_keys state.build_keys state.rows)) (length state.rows)
IsExtra (operator_state.Group state) refused kept shown = (rows : List (List Value)) → IsFedWith state rows → shown ≡ extra.Group (length (first_keys state.keys rows))
IsExtra operator_state.Sink refused kept shown = shown ≡ extra.Sink kept
