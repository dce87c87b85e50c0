-- What a drive does: one turn after the other, each under what the mail says, and what waits is sent between them.
use Rattle.std.specs.Prelude.{◌≡◌, ℕ, ◌+◌, ◌-◌, ◌^◌, ◌<◌, ◌≤◌, not, min, List, [], ◌∷◌, length, count_by, option_map, Option, Some, None, Bool, true, false, IfSome, if◌then◌else◌}
use Rattle.std.specs.List.{list_all}
use Rattle.amber_rows.specs.Lists.{first_of, later_of}
use Rattle.amber_mail.specs.Controls.{answer_at, is_pause}
use Rattle.amber_mail.specs.declared.mail.Control.{Control}
use Rattle.amber_link.specs.Sides.{HaveSentOn}
use Rattle.amber_worker.specs.AtPosition.{IsLookedAt}
use Rattle.amber_worker.specs.Turning.{MakesTurns, TurnsUnder}
use Rattle.amber_worker.specs.WorkerState.{WorkerState, is_starved, next_turn, steps_made}
use Rattle.amber_worker.specs.declared.driving.Drove.{Drove}
use Rattle.amber_worker.specs.declared.turn.Turn.{Turn}
use Rattle.amber_worker.specs.declared.turn.Turn.TheVariants as turn

-- batches that waited for receivers were sent, or some of them; nothing else has changed
pub record HasSent (old new : WorkerState) : Type 0 where
  pub sent : HaveSentOn old.outs new.outs
  pub only : new ≡ record old { outs = new.outs }

-- a turn of a drive: what the worker was told, and what it came to
pub record Driven : Type 0 where
  pub told : Option Control
  pub done : Turn

-- so many turns more were driven; at its end the number stands still
abbrev pub with_turns : ℕ → WorkerState → WorkerState
with_turns turns w = record w { turned = min (w.turned + turns) (2 ^ 64 - 1) }

-- as many turns were counted as were driven, and no more steps were made
pub record CountsTurns (turns : ℕ) (old new : WorkerState) : Type 0 where
  pub turned : old.turned + turns < 2 ^ 64 → new.turned ≡ old.turned + turns
  pub steps : steps_made new ≤ steps_made old + turns

-- these turns were made one after the other, the last one first, none of them counted; batches may have been sent between them
unfoldable pub RanBy : List Driven → WorkerState → WorkerState → Type 0
RanBy [] old new = HasSent old new
RanBy (one ∷ earlier) old new = (before : WorkerState) × (after : WorkerState)
    × RanBy earlier old before × TurnsUnder one.told before after one.done × HasSent after new

-- after such a turn no other is made
abbrev pub stops : Turn → Bool
stops turn.Moved = false
stops turn.Idle = false
stops turn.Starved = false
stops turn.Held = true
stops turn.Paused = true
stops turn.Ended = true

-- what the worker was told is what a plan answers from this look on
abbrev pub AreAnswers : List (Option Control) → ℕ → List Driven → Type 0
AreAnswers plan looks [] = Unit {0}
AreAnswers plan looks (one ∷ earlier) = (one.told ≡ answer_at plan (looks + length earlier)) × AreAnswers plan looks earlier

-- a worker, and what its mail tells of its looks
pub record Driving : Type 0 where
  pub worker : WorkerState
  pub looks : ℕ
  pub pauses : ℕ
  pub plan : Option (List (Option Control))

-- these turns were driven, the last one first, and counted: one look for each, and none behind one that stops
pub record HasDriven (turns : List Driven) (old new : Driving) : Type 0 where
  pub ran : RanBy turns old.worker (record new.worker { turned = old.worker.turned })
  pub turned : new.worker.turned ≡ min (old.worker.turned + length turns) (2 ^ 64 - 1)
  pub looks : new.looks ≡ old.looks + length turns
  pub pauses : new.pauses ≡ old.pauses + count_by (λ one. is_pause one.told) turns
  pub plan : new.plan ≡ old.plan
  pub answers : IfSome old.plan (λ plan. AreAnswers plan old.looks turns)
  pub on : list_all (λ one. not (stops one.done)) (later_of turns) ≡ true

-- it tells of these turns
pub record TellsTurns (drove : Drove) (turns : List Driven) : Type 0 where
  pub turns_made : drove.turns ≡ length turns
  pub last : drove.last ≡ option_map (λ one. one.done) (first_of turns)

-- turns were driven, of which it tells
pub record Drives (old new : Driving) (drove : Drove) : Type 0 where
  pub turns : List Driven
  pub driven : HasDriven turns old new
  pub tells : TellsTurns drove turns

-- a look was made, and nothing else but that batches were seen in a ring
pub record OnlyLooks (old new : Driving) : Type 0 where
  pub worker : IsLookedAt old.worker new.worker
  pub looks : new.looks ≡ old.looks + 1
  pub pauses : new.pauses ≤ old.pauses + 1
  pub plan : new.plan ≡ old.plan

-- turns were driven, and memory ran out in the one after them: its look was made, and nothing else but that batches were seen in a ring
pub record BreaksOff (old new : Driving) : Type 0 where
  pub turns : List Driven
  pub between : Driving
  pub driven : HasDriven turns old between
  pub on : list_all (λ one. not (stops one.done)) turns ≡ true
  pub looked : OnlyLooks between new

-- a drive that came to this was ended by its last turn
abbrev pub was_stopped : Option Turn → Bool
was_stopped None = false
was_stopped (Some done) = stops done

-- one turn was driven: one look was made, and its answer was done
pub record DrivesOnce (old new : Driving) (done : Turn) : Type 0 where
  pub told : Option Control
  pub turns : TurnsUnder told old.worker new.worker done
  pub looks : new.looks ≡ old.looks + 1
  pub pauses : new.pauses ≡ (if is_pause told then old.pauses + 1 else old.pauses)
  pub plan : new.plan ≡ old.plan
  pub answer : IfSome old.plan (λ plan. told ≡ answer_at plan old.looks)
  pub makes : MakesTurns (if is_pause told then 0 else 1) old.worker new.worker

-- how a worker stands after such a turn
abbrev pub StandsAfter : WorkerState → Turn → Type 0
StandsAfter w turn.Moved = Unit {0}
StandsAfter w turn.Idle = next_turn w ≡ turn.Idle
StandsAfter w turn.Held = w.restraint.held ≡ true
StandsAfter w turn.Starved = is_starved w ≡ true
StandsAfter w turn.Paused = w.restraint.paused ≡ true
StandsAfter w turn.Ended = w.finished ≡ true
