-- What a worker has done that did a line of a log again, and when there was nothing to do.
use Rattle.std.specs.Prelude.{◌≡◌, ℕ, ◌+◌, ◌-◌, ◌==◌, ◌++◌, List, [], ◌∷◌, Option, Some, None, is_some, Bool, true, false, if◌then◌else◌}
use Rattle.amber_rows.specs.Lists.{first_of}
use Rattle.amber_rows.specs.declared.batch.Batch.{Batch}
use Rattle.amber_log.specs.declared.entry.Entry.{Entry}
use Rattle.amber_log.specs.declared.entry.Entry.TheVariants as entry
use Rattle.amber_meaning.specs.Position.{Position}
use Rattle.amber_meaning.specs.Rules.{May, assigned, position_after}
use Rattle.amber_link.specs.Links.{waiting}
use Rattle.amber_link.specs.Sides.{AreLooked}
use Rattle.amber_link.specs.declared.upstreams.Upstream.{Upstream}
use Rattle.amber_worker.specs.AtPosition.{Context, HasSameEnds, IsAtPosition, IsLookedAt, Shows}
use Rattle.amber_operators.specs.States.{constants_in}
use Rattle.amber_worker.specs.WorkerState.{WorkerState}
use Rattle.amber_worker.specs.declared.redoing.Armed.{Armed}
use Rattle.amber_worker.specs.declared.redoing.Redone.{Redone}
use Rattle.amber_worker.specs.declared.redoing.Redone.TheVariants as redone

-- ---- a line

-- an entry, and the hand before it where a count is armed
pub record LogLine : Type 0 where
  pub entry : Entry
  pub armed : Option Armed

abbrev pub log_line : Entry → Option Armed → LogLine
log_line entry armed = record { entry = entry; armed = armed }

-- the units in hand before a line; none where no count is armed
abbrev pub hand_before : Option Armed → ℕ
hand_before None = 0
hand_before (Some armed) = armed.hand

-- what an entry leaves of these units in hand
abbrev pub hand_left : Entry → ℕ → ℕ
hand_left (entry.Take sender batch) hand = hand
hand_left (entry.Go rows outs) hand = hand - outs
hand_left (entry.Grant n) hand = hand + n
hand_left (entry.Back n) hand = 0
hand_left entry.Pause hand = hand
hand_left entry.Resume hand = hand
hand_left entry.Hold hand = hand
hand_left entry.Finish hand = hand

abbrev pub hand_after : LogLine → ℕ
hand_after line = hand_left line.entry (hand_before line.armed)

-- the units that an entry claims
abbrev pub units_of : Entry → ℕ
units_of (entry.Take sender batch) = 0
units_of (entry.Go rows outs) = 0
units_of (entry.Grant n) = n
units_of (entry.Back n) = 0
units_of entry.Pause = 0
units_of entry.Resume = 0
units_of entry.Hold = 0
units_of entry.Finish = 0

-- the steps of an entry: rows taken, rows emitted, a batch taken, or the end
abbrev pub entry_steps : Entry → ℕ
entry_steps (entry.Take sender batch) = 1
entry_steps (entry.Go rows outs) = rows + outs
entry_steps (entry.Grant n) = 0
entry_steps (entry.Back n) = 0
entry_steps entry.Pause = 0
entry_steps entry.Resume = 0
entry_steps entry.Hold = 0
entry_steps entry.Finish = 1

-- ---- the batch that a line takes

-- the batch of a sender that comes next; none comes after its last
abbrev pub next_batch : Upstream → Option Batch
next_batch one = if one.ended then None else first_of (waiting one.link)

-- that of the sender with this number
unfoldable pub batch_from : List Upstream → ℕ → Option Batch
batch_from [] from = None
batch_from (one ∷ more) from = if one.from == from then next_batch one else batch_from more from

-- that which an entry asks for
abbrev pub offered_to : List Upstream → Entry → Option Batch
offered_to ins (entry.Take sender batch) = batch_from ins sender
offered_to ins (entry.Go rows outs) = None
offered_to ins (entry.Grant n) = None
offered_to ins (entry.Back n) = None
offered_to ins entry.Pause = None
offered_to ins entry.Resume = None
offered_to ins entry.Hold = None
offered_to ins entry.Finish = None

-- a batch is there for an entry that takes one
abbrev pub HasBatch : Entry → Option Batch → Type 0
HasBatch (entry.Take sender batch) offered = is_some offered ≡ true
HasBatch (entry.Go rows outs) offered = Unit {0}
HasBatch (entry.Grant n) offered = Unit {0}
HasBatch (entry.Back n) offered = Unit {0}
HasBatch entry.Pause offered = Unit {0}
HasBatch entry.Resume offered = Unit {0}
HasBatch entry.Hold offered = Unit {0}
HasBatch entry.Finish offered = Unit {0}

-- ---- the rule of a line

-- an entry meets its rule at a position, where this is known of the senders
pub record MeetsRule (context : Context) (found : List Upstream) (p : Position) (entry : Entry) : Type 0 where
  pub may : May (assigned context.placement.role context.orders) p entry
  pub there : HasBatch entry (offered_to found entry)

-- the worker with these units in hand
abbrev pub with_hand : ℕ → WorkerState → WorkerState
with_hand hand w = record w { restraint = record w.restraint { hand = hand } }

-- the worker as it stands before a line, with the hand of the line
abbrev pub before_line : LogLine → WorkerState → WorkerState
before_line line w = with_hand (hand_before line.armed) w

-- wherever the worker stood, under a count or not as the line says, the line met its rule, and the worker stands where it leads
unfoldable pub StandsAfterLine : LogLine → List Upstream → WorkerState → WorkerState → Type 0
StandsAfterLine line found old new = (context : Context) (start p : Position) → context.orders.counted ≡ is_some line.armed
    → IsAtPosition context (before_line line old) start p
    → MeetsRule context found p line.entry
    × IsAtPosition context (with_hand (hand_after line) new) start (position_after context.orders (offered_to found line.entry) line.entry p)

-- whatever position the worker showed, under a count or not as the line says, the line did not meet its rule
unfoldable pub NeverMeets : LogLine → List Upstream → WorkerState → Type 0
NeverMeets line found w = (context : Context) (p : Position) → context.orders.counted ≡ is_some line.armed
    → Shows context (before_line line w) p → MeetsRule context found p line.entry → ⊥

-- ---- what was done

-- the line was done: it met its rule, what it leads to stands, it is journalled, and all that no line changes is as before
pub record HasRedone (line : LogLine) (old new : WorkerState) : Type 0 where
  pub found : List Upstream
  pub looked : AreLooked old.ins found
  pub stands : StandsAfterLine line found old new
  -- nothing is in hand where no count is armed
  pub unarmed : line.armed ≡ None → hand_after line ≡ 0
  pub journal : new.journal ≡ old.journal ++ line.entry ∷ []
  pub ends : HasSameEnds old new
  pub constants : constants_in new.operator_state ≡ constants_in old.operator_state
  pub seat : new.seat ≡ old.seat
  pub reserved : new.reserved ≡ old.reserved
  pub turned : new.turned ≡ old.turned

-- nothing was done, since the line did not meet its rule
pub record CannotRedo (line : LogLine) (old new : WorkerState) : Type 0 where
  pub looked : IsLookedAt old new
  pub never : NeverMeets line new.ins old

-- the line was done, or could not be
abbrev pub Redoes : LogLine → WorkerState → WorkerState → Bool → Type 0
Redoes line old new true = HasRedone line old new
Redoes line old new false = CannotRedo line old new

-- and this was answered, with what is in hand then
abbrev pub AnswersRedone : LogLine → WorkerState → WorkerState → Redone → Type 0
AnswersRedone line old new (redone.Done hand) = HasRedone line old new × (hand ≡ hand_after line)
AnswersRedone line old new redone.Illegal = CannotRedo line old new
