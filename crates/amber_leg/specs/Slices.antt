-- A worker that is driven: what it may do, and what it has done.
use Rattle.std.specs.Prelude.{◌≡◌, ◌+◌, ◌^◌, ◌<◌, ◌≤◌, ◌++◌, ℕ, [], Option, None, Some, option_to_list}
use Rattle.amber_board.specs.declared.types.Board.{Board}
use Rattle.amber_mail.specs.Rings.{taken_controls, waiting_controls}
use Rattle.amber_mail.specs.declared.mail.Control.{Control}
use Rattle.amber_mail.specs.declared.rings.RingMail.{RingMail}
use Rattle.amber_worker.specs.Acting.{Acts}
use Rattle.amber_worker.specs.Counting.{IsBoardOf}
use Rattle.amber_worker.specs.Driving.{CountsTurns}
use Rattle.amber_worker.specs.Turning.{MakesTurns}
use Rattle.amber_worker.specs.WorkerState.{WorkerState, steps_made}

-- a worker has made turns, so many at most, and has counted them: one at least where it might make one, and no more steps than turns
pub record HasCounted (turns : ℕ) (old new : WorkerState) : Type 0 where
  pub makes : MakesTurns turns old new
  pub some : 1 ≤ turns → old.turned + 1 ≤ new.turned
  pub more : old.turned ≤ new.turned
  pub within : new.turned ≤ old.turned + turns
  pub steps : steps_made new + old.turned ≤ steps_made old + new.turned

-- a worker has done what it was told between two drives, and made no turn, nor counted one; or nothing, where it was told nothing
pub record Heeds (told : Option Control) (old new : WorkerState) : Type 0 where
  pub acts : Acts told old new
  pub makes : MakesTurns 0 old new
  pub counts : CountsTurns 0 old new

-- so has the worker at a place where one may be
abbrev pub HeedsAt : Option Control → Option WorkerState → Option WorkerState → Type 0
HeedsAt told None None = Unit {0}
HeedsAt told None (Some v) = ⊥
HeedsAt told (Some w) None = ⊥
HeedsAt told (Some w) (Some v) = Heeds told w v

-- it has looked into its mail between two drives: it has done what it was told, or nothing, where nothing is known to wait there
pub record HeedsMail (before after : RingMail) (old new : WorkerState) : Type 0 where
  pub told : Option Control
  pub taken : taken_controls after ≡ taken_controls before ++ option_to_list told
  pub none : told ≡ None → waiting_controls after ≡ []
  pub heeds : Heeds told old new

-- it has made turns, so many at most, and counted them, and then looked into its mail, which has come so far
pub record DrivesAndHeeds (turns : ℕ) (after : RingMail) (old new : WorkerState) : Type 0 where
  pub before : RingMail
  pub between : WorkerState
  pub drives : HasCounted turns old between
  pub heeds : HeedsMail before after between new

-- a worker, where there is one, may make so many turns: it has the seat of this board, if there is one, and has made few steps, and few
-- turns
abbrev pub MayTurn : ℕ → Option Board → Option WorkerState → Type 0
MayTurn turns board None = Unit {0}
MayTurn turns board (Some w) = (steps_made w + turns ≤ 2 ^ 40) × IsBoardOf board w.seat × (w.turned + turns < 2 ^ 64)

-- it has made turns, so many at most, and has its seat still
abbrev pub HasTurnedSo : ℕ → Option Board → Option WorkerState → Option WorkerState → Type 0
HasTurnedSo turns board None None = Unit {0}
HasTurnedSo turns board None (Some v) = ⊥
HasTurnedSo turns board (Some w) None = ⊥
HasTurnedSo turns board (Some w) (Some v) = HasCounted turns w v × IsBoardOf board v.seat
