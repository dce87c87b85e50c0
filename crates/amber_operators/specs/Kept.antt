-- What follows of what an operator keeps of its rows: the build side of a join, groups, rows for the answer, or nothing.
use Rattle.std.specs.Prelude.{◌≡◌, ℕ, ◌^◌, ◌<◌, ◌≤◌, ◌&&◌, false, true, not, List, [], ◌∷◌, Option, Some, None, is_some, Bool, if◌then◌else◌}
use Rattle.amber_rows.specs.Operators.{refused_keys}
use Rattle.amber_rows.specs.declared.value.Value.{Value}
use Rattle.amber_group.specs.Group.{Group, IsFedWith}
use Rattle.amber_join.specs.Join.{Join}
use Rattle.amber_meaning.specs.Task.{Arrival, Task, built_of, rows_in}
use Rattle.amber_link.specs.Sides.{have_builders_ended}
use Rattle.amber_link.specs.declared.upstreams.Upstream.{Upstream}
use Rattle.amber_operators.specs.Keeping.{GivesGroups}
use Rattle.amber_operators.specs.States.{groups_kept, join_kept, keeps_answer}
use Rattle.amber_operators.specs.declared.operator_state.OperatorState.{OperatorState}

-- ---- which it is

-- it keeps the build side of a join
abbrev pub keeps_build_side : OperatorState → Bool
keeps_build_side d = is_some (join_kept d)

-- what is kept are groups
abbrev pub is_group : OperatorState → Bool
is_group d = is_some (groups_kept d)

-- nothing is kept of the rows that were taken
abbrev pub is_plain : OperatorState → Bool
is_plain d = not (keeps_build_side d) && (not (is_group d) && not (keeps_answer d))

-- taking rows of this side changes nothing of what is kept for the operator
abbrev pub keeps_still : OperatorState → Bool → Bool
keeps_still d builds = not (is_group d) && not (keeps_build_side d && builds)

-- ---- a row

-- the rows that are kept for the answer of a row that suits
abbrev pub keeps : OperatorState → List Value → List (List Value)
keeps d row = if keeps_answer d then row ∷ [] else []

-- what is kept of a build side is sealed where rows of the probe side are at hand, and not before
abbrev pub IsSealedFor : Option Join → Bool → Type 0
IsSealedFor None builds = Unit {0}
IsSealedFor (Some state) builds = state.sealed ≡ not builds

abbrev pub IsSealedSo : OperatorState → Bool → Type 0
IsSealedSo d builds = IsSealedFor (join_kept d) builds

-- a row of this side may be taken: a build row before what is kept is sealed, a probe row after
abbrev pub MayTakeOf : Option Join → Option Group → Bool → Type 0
MayTakeOf (Some state) groups builds = state.sealed ≡ not builds
MayTakeOf None (Some state) builds = state.fed < 2 ^ 40
MayTakeOf None None builds = Unit {0}

abbrev pub MayTakeRow : OperatorState → Bool → Type 0
MayTakeRow d builds = MayTakeOf (join_kept d) (groups_kept d) builds

-- ---- the rows that it took

-- what is kept of these: of a join the build side, of a group what its rows stand for
abbrev pub KeepsOf : Option Join → Option Group → Task → List Arrival → Type 0
KeepsOf (Some state) groups task arrivals = state.rows ≡ built_of task arrivals
KeepsOf None (Some state) task arrivals = IsFedWith state (rows_in task arrivals)
KeepsOf None None task arrivals = Unit {0}

abbrev pub KeepsRows : OperatorState → Task → List Arrival → Type 0
KeepsRows d task arrivals = KeepsOf (join_kept d) (groups_kept d) task arrivals

-- what is kept of a join is sealed once the batches at hand are of the probe side, and then the build side has ended
abbrev pub IsJoinInOrder : Join → Bool → List Upstream → Type 0
IsJoinInOrder state building ins = (state.sealed ≡ not building) × (building ≡ false → have_builders_ended ins ≡ true)

-- the same, and a group was fed no more rows than were taken, where this side is at hand and so many rows were taken
abbrev pub InOrder : Option Join → Option Group → (Bool × ℕ) → List Upstream → Type 0
InOrder (Some state) groups hand ins = IsJoinInOrder state hand.0 ins
InOrder None (Some state) hand ins = state.fed ≤ hand.1
InOrder None None hand ins = Unit {0}

abbrev pub IsInOrder : OperatorState → Bool → ℕ → List Upstream → Type 0
IsInOrder d building taken ins = InOrder (join_kept d) (groups_kept d) (building, taken) ins

-- ---- the end

-- the rows that groups give at the end, once nothing more can come; without groups there are none
abbrev pub ClosesGroups : Option Group → Bool → List (List Value) → Type 0
ClosesGroups None over rows = rows ≡ []
ClosesGroups (Some state) over rows = GivesGroups state over rows

abbrev pub Closes : OperatorState → Bool → List (List Value) → Type 0
Closes d over rows = ClosesGroups (groups_kept d) over rows

-- the keys that groups refuse; without groups there are none
abbrev pub RefusesKeys : Option Group → List (List Value) → Type 0
RefusesKeys None keys = keys ≡ []
RefusesKeys (Some state) keys = (rows : List (List Value)) → IsFedWith state rows → keys ≡ refused_keys state.keys state.aggs rows

abbrev pub IsRefused : OperatorState → List (List Value) → Type 0
IsRefused d keys = RefusesKeys (groups_kept d) keys
