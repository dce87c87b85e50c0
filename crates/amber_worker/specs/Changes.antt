-- What commands change of a worker between legs, and what else changes it but turns.
use Rattle.std.specs.Prelude.{◌≡◌, ◌<◌, ◌==◌, ◌&&◌, ◌++◌, List, [], ◌∷◌, drop, length, Option, Some, None, Result, Bool, true, false, if◌then◌else◌}
use Rattle.amber_rows.specs.declared.value.Value.{Value}
use Rattle.amber_rows.specs.Lists.{first_of}
use Rattle.amber_rows.specs.declared.cond.Cond.{Cond}
use Rattle.amber_rows.specs.declared.record.RowFault.{RowFault}
use Rattle.amber_board.specs.declared.types.WorkSeat.{WorkSeat}
use Rattle.amber_log.specs.declared.entry.Entry.TheVariants as entry
use Rattle.amber_meaning.specs.Plan.{role_of}
use Rattle.amber_meaning.specs.Position.{Position, origin, produced_rows}
use Rattle.amber_meaning.specs.State.{let_go, restraint_released, without_held}
use Rattle.amber_worker.specs.AtPosition.{Context, HasShare, IsAtPosition, Shows, first_context}
use Rattle.amber_worker.specs.Counting.{hand_in, with_back, with_grant}
use Rattle.amber_worker.specs.Made.{NewWorker}
use Rattle.amber_worker.specs.WorkerState.{WorkerState}

-- a new worker stands at the beginning, where its share is that of some records
unfoldable pub StandsNew : NewWorker → WorkerState → Type 0
StandsNew new made = (records : List (List (Result (List Value) RowFault))) → HasShare new.share (role_of new.flow records new.number)
    → IsAtPosition (first_context new.flow records new.batch_size new.number) made origin origin

-- what it shows under any orders it shows under those with this constant
unfoldable pub ShowsSet : Value → WorkerState → WorkerState → Type 0
ShowsSet value old new = (context : Context) (p : Position)
    → Shows context old p → Shows (record context { orders = record context.orders { constants = value ∷ [] } }) new p

-- a leg begins: pauses end, a held row may go, and nothing was done since
abbrev pub at_leg_start : WorkerState → WorkerState
at_leg_start w = record w { restraint = restraint_released w.restraint; journal = []; turned = 0 }

-- wherever it stood, it stands where the leg begins
unfoldable pub StandsAtLeg : WorkerState → WorkerState → Type 0
StandsAtLeg old new = (context : Context) (p : Position)
    → Shows context old p → IsAtPosition context new (let_go p) (let_go p)

-- ---- a condition, and the row that meets it

-- the context in which this condition is in force, and a count is armed or not
abbrev pub with_when : Option Cond → Bool → Context → Context
with_when when counted context = record context { orders = record context.orders { when = when; counted = counted } }

-- what it shows under any orders it shows under those with this condition, whether a count is armed or not
unfoldable pub ShowsWatching : Option Cond → WorkerState → WorkerState → Type 0
ShowsWatching when old new = (context : Context) (counted : Bool) (p : Position)
    → Shows context old p → Shows (with_when when counted context) new p

-- the row before which it is held
abbrev pub row_held : WorkerState → Option (List Value)
row_held w = if w.restraint.held then first_of w.pending else None

-- that row is dropped, and the worker is no longer held
abbrev pub held_dropped : WorkerState → WorkerState
held_dropped w =
    if w.restraint.held then record w { restraint = record w.restraint { held = false }; pending = drop 1 w.pending } else w

-- what it showed, without that row; a held position has one, as each position has to which a log leads
unfoldable pub ShowsDropped : WorkerState → WorkerState → Type 0
ShowsDropped old new = (context : Context) (p : Position)
    → (p.restraint.held ≡ true → length p.outcomes < length (produced_rows context.placement.role p))
    → Shows context old p → Shows context new (without_held p)

-- ---- within a leg

-- it goes on, that was paused
abbrev pub resumed_at : WorkerState → WorkerState
resumed_at w = record w { restraint = record w.restraint { paused = false }; journal = w.journal ++ entry.Resume ∷ [] }

-- it has this seat; units that are in its hand were granted
abbrev pub armed_at : WorkSeat → WorkerState → WorkerState
armed_at seat w = record w {
  seat = Some seat;
  restraint = record w.restraint { hand = hand_in (Some seat) };
  journal = with_grant (hand_in (Some seat)) w.journal;
  reserved = w.reserved && (hand_in (Some seat) == 0);
}

-- it has no seat; units that were in its hand were given back
abbrev pub disarmed_at : WorkerState → WorkerState
disarmed_at w = record w {
  seat = None;
  restraint = record w.restraint { hand = 0 };
  journal = with_back w.restraint.hand w.journal;
  reserved = false;
}
