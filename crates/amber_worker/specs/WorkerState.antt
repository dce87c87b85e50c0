-- What a worker keeps, as lists, numbers and flags.
use Rattle.std.specs.Prelude.{◌≡◌, ℕ, ◌+◌, ◌==◌, ◌&&◌, ◌||◌, not, List, [], Option, None, is_some, Bool, true, false, if◌then◌else◌}
use Rattle.std.specs.List.{list_any}
use Rattle.amber_rows.specs.declared.value.Value.{Value}
use Rattle.amber_rows.specs.declared.column.Column.{Column}
use Rattle.amber_log.specs.declared.entry.Entry.{Entry}
use Rattle.amber_meaning.specs.Position.{Restraint, one_if, no_restraint}
use Rattle.amber_meaning.specs.Rules.{first_is_watched}
use Rattle.amber_meaning.specs.Task.{Arrival}
use Rattle.amber_meaning.specs.declared.answer.Refusal.{Refusal}
use Rattle.amber_rows.specs.declared.cond.Cond.{Cond}
use Rattle.amber_board.specs.declared.types.WorkSeat.{WorkSeat}
use Rattle.amber_link.specs.Links.{has_some}
use Rattle.amber_link.specs.Sides.{have_all_ended, have_builders_ended, may_come}
use Rattle.amber_link.specs.declared.upstreams.Upstream.{Upstream}
use Rattle.amber_link.specs.declared.downstreams.Downstream.{Downstream}
use Rattle.amber_worker.specs.declared.route.Route.{Route}
use Rattle.amber_worker.specs.declared.route.Route.TheVariants as route
use Rattle.amber_operators.specs.declared.operator_state.OperatorState.{OperatorState}
use Rattle.amber_worker.specs.declared.turn.Turn.{Turn}
use Rattle.amber_worker.specs.declared.turn.Turn.TheVariants as turn
use Rattle.amber_operators.specs.States.{no_operator_state}

pub record WorkerState : Type 0 where
  -- its operator and its own running number
  pub op : ℕ
  pub number : ℕ
  -- what it does with a row, the columns of the rows that it is handed, and of a build side
  pub operator_state : OperatorState
  pub columns : List Column
  pub build_columns : List Column
  -- whether the batches at hand are of the build side, as those of a join are at first
  pub building : Bool
  -- what was handed and not yet taken, and what was produced and is not gone
  pub rest : List Arrival
  pub pending : List (List Value)
  -- rows taken, rows emitted, batches taken
  pub taken : ℕ
  pub emitted : ℕ
  pub batches : ℕ
  -- what it keeps for the answer
  pub refused : List Refusal
  pub kept : List (List Value)
  -- the condition in force
  pub when : Option Cond
  -- its seat on the board of its operator's count, where that is armed
  pub seat : Option WorkSeat
  -- what holds it back, or lets it on; its hand is that of the seat
  pub restraint : Restraint
  pub finished : Bool
  -- its senders, its receivers, and to which of them a row goes
  pub ins : List Upstream
  pub outs : List Downstream
  pub route : Route
  -- what it did since the journal was handed out, and whether room for an entry more is kept
  pub journal : List Entry
  pub reserved : Bool
  -- for how many turns it was driven since its leg began
  pub turned : ℕ

-- a worker of nothing: of no operator and with no links, that has done nothing and keeps nothing
abbrev pub empty_worker_state : WorkerState
empty_worker_state = record {
  op = 0;
  number = 0;
  operator_state = no_operator_state;
  columns = [];
  build_columns = [];
  building = false;
  rest = [];
  pending = [];
  taken = 0;
  emitted = 0;
  batches = 0;
  refused = [];
  kept = [];
  when = None;
  seat = None;
  restraint = no_restraint;
  finished = false;
  ins = [];
  outs = [];
  route = route.One 0;
  journal = [];
  reserved = false;
  turned = 0;
}

-- its steps so far
abbrev pub steps_made : WorkerState → ℕ
steps_made w = w.taken + w.emitted + w.batches + one_if w.finished

-- ---- which turn comes

-- a batch may be taken: of the probe side once the build side has ended
abbrev pub has_ready : List Upstream → Bool
has_ready ins = list_any (may_come (have_builders_ended ins)) ins

-- a count is armed
abbrev pub is_armed : WorkerState → Bool
is_armed w = is_some w.seat

-- a count is armed, and no unit is in hand
abbrev pub is_starved : WorkerState → Bool
is_starved w = is_armed w && (w.restraint.hand == 0)

-- it needs a unit for its next row, and has none in hand
abbrev pub needs_unit : WorkerState → Bool
needs_unit w = is_starved w && (has_some w.pending || has_some w.rest)

-- the first pending row meets the condition, and was not waved on
abbrev pub must_hold : WorkerState → Bool
must_hold w = not w.restraint.waved && first_is_watched w.when w.pending

-- the turn that a worker makes. It stands still where it is paused or held, where it has no unit for what comes next, and where the
-- next row holds it; else it moves where a row is pending, where a row is left, where a batch may be taken, and where nothing more can
-- come
abbrev pub next_turn : WorkerState → Turn
next_turn w =
    if w.finished then turn.Ended
    else if w.restraint.paused then turn.Paused
    else if w.restraint.held then turn.Held
    else if has_some w.pending then (if is_starved w then turn.Starved else if must_hold w then turn.Held else turn.Moved)
    else if has_some w.rest then (if is_starved w then turn.Starved else turn.Moved)
    else if has_ready w.ins then turn.Moved
    else if have_all_ended w.ins then turn.Moved
    else turn.Idle

-- neither finished nor paused nor held
pub record IsUnrestrained (w : WorkerState) : Type 0 where
  pub unfinished : w.finished ≡ false
  pub running : w.restraint.paused ≡ false
  pub loose : w.restraint.held ≡ false

-- it has finished, is paused or is held
abbrev pub stands_still : WorkerState → Bool
stands_still w = (w.finished || w.restraint.paused) || w.restraint.held

-- it stands still whatever comes, and this is why
abbrev pub StandsStill : WorkerState → Turn → Type 0
StandsStill w turn.Moved = ⊥
StandsStill w turn.Idle = ⊥
StandsStill w turn.Held = (w.finished ≡ false) × (w.restraint.paused ≡ false) × (w.restraint.held ≡ true)
StandsStill w turn.Starved = ⊥
StandsStill w turn.Paused = (w.finished ≡ false) × (w.restraint.paused ≡ true)
StandsStill w turn.Ended = w.finished ≡ true
