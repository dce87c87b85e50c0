-- What commands have put in force at each operator, as a home keeps it, and how that stands to the definitions.
use Rattle.std.specs.Prelude.{◌≡◌, ℕ, ◌+◌, ◌≤◌, ◌==◌, ◌||◌, nat_le, List, [], ◌∷◌, length, map, sum_by, ⊤, Option, Some, None, unwrap_or, Bool, false, if◌then◌else◌}
use Rattle.amber_rows.specs.Lists.{nth}
use Rattle.amber_rows.specs.declared.cond.Cond.{Cond}
use Rattle.amber_rows.specs.declared.flow.Operator.{Operator}
use Rattle.amber_rows.specs.declared.value.Value.{Value}
use Rattle.amber_log.specs.declared.effect.Arming.{Arming}
use Rattle.amber_log.specs.declared.effect.Change.{Change}
use Rattle.amber_log.specs.declared.effect.Change.TheVariants as change
use Rattle.amber_meaning.specs.Position.{Position, emitted_count}
use Rattle.amber_meaning.specs.State.{Arms, Counting, State, arms_at, counted_by, crew_at, first_constants, put, put_constant}
use Rattle.amber_boards.specs.declared.target.Target.{Target}

-- what is in force at an operator: a pause, a count, a condition to stop at, and a filter's constants
pub record Asked : Type 0 where
  pub pause : Option ℕ
  pub count : Option Target
  pub when : Option Cond
  pub constants : List Value

abbrev pub no_asked : Asked
no_asked = record { pause = None; count = None; when = None; constants = [] }

abbrev pub asked_at : List Asked → ℕ → Asked
asked_at asked op = unwrap_or (nth asked op) no_asked

-- before any command: nothing but the filters' own constants
abbrev pub first_asked : List Operator → List Asked
first_asked flow = map (λ operator. record no_asked { constants = first_constants operator.what }) flow

-- ---- what commands change

-- no pause, count or condition
abbrev pub without_asked : Asked → Asked
without_asked asked = record asked { pause = None; count = None; when = None }

-- a change of a count: what is put counts the rows that its operator emits from now on, where it has emitted so many
abbrev pub counting_since : ℕ → Change ℕ → Change Target
counting_since emitted change.Keep = change.Keep
counting_since emitted change.TakeBack = change.TakeBack
counting_since emitted (change.Put n) = change.Put (record { target = n; since = emitted })

-- what is in force afterwards at an operator that has emitted so many rows
abbrev pub asked_changed : Arming → ℕ → Asked → Asked
asked_changed arming emitted asked = record {
  pause = put arming.pause asked.pause;
  count = put (counting_since emitted arming.count) asked.count;
  when = put arming.when asked.when;
  constants = put_constant arming.constant asked.constants;
}

-- ---- what stands

-- a pause stands once so many rows were emitted
abbrev pub stands_after : Option ℕ → ℕ → Bool
stands_after None rows = false
stands_after (Some n) rows = nat_le n rows

-- a count stands where just as many rows were emitted since it was armed
abbrev pub is_reached : Option Target → ℕ → Bool
is_reached None rows = false
is_reached (Some count) rows = rows == count.target + count.since

-- its pause or its count stands
abbrev pub is_stopped_after : Asked → ℕ → Bool
is_stopped_after asked rows = stands_after asked.pause rows || is_reached asked.count rows

-- what is left of it where its operator has emitted so many rows: the pause and the count are taken away where they stand
abbrev pub asked_left : ℕ → Asked → Asked
asked_left rows asked = record asked {
  pause = if stands_after asked.pause rows then None else asked.pause;
  count = if is_reached asked.count rows then None else asked.count;
}

-- ---- how it stands to the definitions

-- the rows that workers have emitted
abbrev pub emitted_of : List Position → ℕ
emitted_of crew = sum_by (λ p. emitted_count p.outcomes) crew

-- of each of these workers so many rows are gone, or more
abbrev pub AreGone : List ℕ → List Position → Type 0
AreGone [] [] = ⊤
AreGone [] (p ∷ crew) = ⊥
AreGone (base ∷ bases) [] = ⊥
AreGone (base ∷ bases) (p ∷ crew) = (base ≤ length p.outcomes) × AreGone bases crew

-- an armed count of these workers is one of the definitions: the rows that it has counted are those emitted since it was armed
pub record IsTargetOf (crew : List Position) (kept : Target) (counting : Counting) : Type 0 where
  pub target : kept.target ≡ counting.target
  pub counted : counted_by counting.base crew + kept.since ≡ emitted_of crew
  pub gone : AreGone counting.base crew

abbrev pub IsCountOf : List Position → Option Target → Option Counting → Type 0
IsCountOf crew None None = ⊤
IsCountOf crew None (Some counting) = ⊥
IsCountOf crew (Some kept) None = ⊥
IsCountOf crew (Some kept) (Some counting) = IsTargetOf crew kept counting

-- what is in force at the operator of these workers
pub record IsAskedOf (crew : List Position) (asked : Asked) (arms : Arms) : Type 0 where
  pub pause : asked.pause ≡ arms.pause
  pub count : IsCountOf crew asked.count arms.count
  pub when : asked.when ≡ arms.when
  pub constants : asked.constants ≡ arms.constants

-- what is in force at each operator in a state
pub record IsInForce (flow : List Operator) (state : State) (asked : List Asked) : Type 0 where
  pub all : length asked ≡ length flow
  pub each : (op : ℕ) → IsAskedOf (crew_at flow state op) (asked_at asked op) (arms_at state op)
