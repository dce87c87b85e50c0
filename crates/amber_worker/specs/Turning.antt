-- What a turn of a worker has done.
use Rattle.std.specs.Prelude.{◌≡◌, ◌⊎◌, ℕ, ◌+◌, ◌≤◌, List, [], ◌∷◌, ◌++◌, filter, not, Option, None, Bool, true, false, if◌then◌else◌}
use Rattle.amber_rows.specs.declared.batch.Batch.{Batch}
use Rattle.amber_log.specs.declared.entry.Entry.{Entry}
use Rattle.amber_log.specs.declared.entry.Entry.TheVariants as entry
use Rattle.amber_meaning.specs.Position.{no_restraint}
use Rattle.amber_link.specs.Links.{come}
use Rattle.amber_link.specs.Sides.{AreLooked, Pairwise}
use Rattle.amber_link.specs.declared.upstreams.Upstream.{Upstream}
use Rattle.amber_worker.specs.Acting.{Acts, DealsAt}
use Rattle.amber_worker.specs.AtPosition.{HasSameEnds, IsLookedAt, KeepsUnder}
use Rattle.amber_worker.specs.Counting.{IsSameSeat, mine_in}
use Rattle.amber_worker.specs.Steps.{EmitsRow, Finishes, TakesBatch, TakesRow, held_at, with_go}
use Rattle.amber_worker.specs.WorkerState.{WorkerState, is_armed, next_turn, steps_made}
use Rattle.amber_worker.specs.declared.counting.Dealing.{Dealing}
use Rattle.amber_mail.specs.declared.mail.Control.{Control}
use Rattle.amber_worker.specs.declared.turn.Turn.{Turn}
use Rattle.amber_worker.specs.declared.turn.Turn.TheVariants as turn
use Rattle.amber_operators.specs.States.{constants_in}

-- the turn that a worker makes, by what it found when it looked
pub record IsNextTurn (old : WorkerState) (turn : Turn) : Type 0 where
  pub found : List Upstream
  pub looked : AreLooked old.ins found
  pub is : turn ≡ next_turn (record old { ins = found })

-- the end was reached, after a look
pub record FinishesAt (old new : WorkerState) : Type 0 where
  pub unfinished : old.finished ≡ false
  pub between : WorkerState
  pub looked : IsLookedAt old between
  pub finishes : Finishes between new

-- one step was made: the first pending row was emitted, the next row was taken, a batch was taken, or the end was reached
abbrev pub MakesStep : WorkerState → WorkerState → Type 0
MakesStep old new = EmitsRow old new ⊎ (TakesRow old new ⊎ (TakesBatch old new ⊎ FinishesAt old new))

-- what a step writes into a journal: a row was emitted, a row was taken, a batch was taken, or the end was reached
abbrev pub WritesStep : List Entry → List Entry → Type 0
WritesStep old new =
    (new ≡ with_go old 0 1)
    ⊎ ((new ≡ with_go old 1 0) ⊎ (((from number : ℕ) × (new ≡ old ++ entry.Take from number ∷ [])) ⊎ (new ≡ old ++ entry.Finish ∷ [])))

-- a look found nothing to do
pub record IsIdleAt (old new : WorkerState) : Type 0 where
  pub looked : IsLookedAt old new
  pub idle : next_turn new ≡ turn.Idle

-- a turn has made a step, or nothing but a look, or held the worker before its next row, or nothing
abbrev pub HasTurned : Turn → WorkerState → WorkerState → Type 0
HasTurned turn.Moved old new = MakesStep old new
HasTurned turn.Idle old new = IsIdleAt old new
HasTurned turn.Held old new = new ≡ (if old.restraint.held then old else held_at old)
HasTurned turn.Starved old new = new ≡ old
HasTurned turn.Paused old new = new ≡ old
HasTurned turn.Ended old new = new ≡ old

-- the turn that comes was made
pub record MakesTurn (old new : WorkerState) (turn : Turn) : Type 0 where
  pub next : IsNextTurn old turn
  pub turned : HasTurned turn old new

-- units were dealt with so, and then the turn that comes was made
pub record TurnsDealing (how : Dealing) (old new : WorkerState) (turn : Turn) : Type 0 where
  pub between : WorkerState
  pub deals : DealsAt how old between
  pub makes : MakesTurn between new turn

-- units were dealt with so, and then a batch was taken
pub record TakesDealing (how : Dealing) (old new : WorkerState) : Type 0 where
  pub between : WorkerState
  pub deals : DealsAt how old between
  pub takes : TakesBatch between new

-- units were dealt with so, and then the end was reached
pub record FinishesDealing (how : Dealing) (old new : WorkerState) : Type 0 where
  pub between : WorkerState
  pub deals : DealsAt how old between
  pub finishes : Finishes between new

-- the worker did what it was told, and then made the turn that comes
pub record TurnsUnder (told : Option Control) (old new : WorkerState) (turn : Turn) : Type 0 where
  pub between : WorkerState
  pub acts : Acts told old between
  pub makes : MakesTurn between new turn

-- ---- a number of turns

-- an entry tells of steps: of rows taken and emitted, of a batch taken, or of the end
abbrev pub tells_steps : Entry → Bool
tells_steps (entry.Take sender batch) = true
tells_steps (entry.Go rows outs) = true
tells_steps (entry.Grant n) = false
tells_steps (entry.Back n) = false
tells_steps entry.Pause = false
tells_steps entry.Resume = false
tells_steps entry.Hold = false
tells_steps entry.Finish = true

-- the entries of a journal that tell of something else
abbrev pub other_entries : List Entry → List Entry
other_entries journal = filter (λ one. not (tells_steps one)) journal

-- the batches of a sender that had come, and perhaps more
abbrev pub HaveMoreCome : Upstream → Upstream → Type 0
HaveMoreCome old new = (more : List Batch) × (come new.link ≡ come old.link ++ more)

-- turns were made, this many or fewer: the worker keeps what it stands for, its ends, its constant, its seat and the room of its
-- journal; no count falls, nor do steps, rows taken and emitted and steps rise by at most so many, and under a count as many units were
-- counted as rows were emitted
pub record MakesTurns (most : ℕ) (old new : WorkerState) : Type 0 where
  pub keeps : KeepsUnder (is_armed old) old new
  pub ends : HasSameEnds old new
  pub constants : constants_in new.operator_state ≡ constants_in old.operator_state
  pub seat : IsSameSeat old.seat new.seat
  pub mine : is_armed old ≡ true → mine_in new.seat + old.emitted ≡ mine_in old.seat + new.emitted
  pub reserved : new.reserved ≡ old.reserved
  pub come : Pairwise HaveMoreCome old.ins new.ins
  pub taken : old.taken ≤ new.taken
  pub emitted : old.emitted ≤ new.emitted
  pub batches : old.batches ≤ new.batches
  pub rows : new.taken + new.emitted ≤ old.taken + old.emitted + most
  pub steps : steps_made new ≤ steps_made old + most
  pub more : steps_made old ≤ steps_made new

-- nothing is watched, no count is armed, and nothing holds it back or lets it on
pub record IsCalm (w : WorkerState) : Type 0 where
  pub unwatched : w.when ≡ None
  pub unarmed : w.seat ≡ None
  pub loose : w.restraint ≡ no_restraint

-- a calm worker that was told nothing is calm still, and what was written tells of steps alone
pub record StaysCalm (old new : WorkerState) : Type 0 where
  pub calm : IsCalm new
  pub writes : other_entries new.journal ≡ other_entries old.journal
