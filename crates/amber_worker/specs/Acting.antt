-- What a worker does when it is told something, before its turn.
use Rattle.std.specs.Prelude.{◌≡◌, ℕ, ◌+◌, ◌^◌, ◌<◌, ◌&&◌, ◌||◌, ◌++◌, ◌∷◌, [], not, nat_lt, Option, Some, None, true, false, if◌then◌else◌}
use Rattle.amber_board.specs.declared.types.WorkSeat.{WorkSeat}
use Rattle.amber_log.specs.declared.entry.Entry.TheVariants as entry
use Rattle.amber_worker.specs.Counting.{Claims, GivesBack, with_back, with_grant}
use Rattle.amber_worker.specs.WorkerState.{WorkerState, is_armed}
use Rattle.amber_worker.specs.declared.counting.Dealing.{Dealing}
use Rattle.amber_worker.specs.declared.counting.Dealing.TheVariants as dealing
use Rattle.amber_mail.specs.declared.mail.Control.{Control}
use Rattle.amber_mail.specs.declared.mail.Control.TheVariants as control

-- it is paused, if it has not finished
abbrev pub paused_at : WorkerState → WorkerState
paused_at w =
    if w.finished || w.restraint.paused then w
    else record w { restraint = record w.restraint { paused = true }; journal = w.journal ++ entry.Pause ∷ [] }

-- it claimed what was allotted to it
pub record ClaimsAt (old new : WorkerState) : Type 0 where
  pub units : ℕ
  pub few : units < 2 ^ 64
  pub seat : Option WorkSeat
  pub claims : Claims units old.seat seat
  pub after : new ≡ record old {
    seat = seat;
    restraint = record old.restraint { hand = old.restraint.hand + units };
    journal = with_grant units old.journal;
  }

-- it gave its whole hand back
pub record ReturnsAt (old new : WorkerState) : Type 0 where
  pub seat : Option WorkSeat
  pub gives : GivesBack old.seat seat
  pub after : new ≡ record old {
    seat = seat;
    restraint = record old.restraint { hand = 0 };
    journal = with_back old.restraint.hand old.journal;
  }

-- what a worker does with its hand that is told this: it claims where a count is armed and it has not finished, and gives back where it
-- has units
abbrev pub dealing_under : Option Control → WorkerState → Dealing
dealing_under None w = dealing.Nothing
dealing_under (Some control.Pause) w = dealing.Nothing
dealing_under (Some control.Claim) w = if is_armed w && not w.finished then dealing.Claims else dealing.Nothing
dealing_under (Some control.Return) w = if nat_lt 0 w.restraint.hand then dealing.Returns else dealing.Nothing

-- it does this with its hand, and was not told to pause
abbrev pub IsDealingUnder : Option Control → WorkerState → Dealing → Type 0
IsDealingUnder None w how = how ≡ dealing_under None w
IsDealingUnder (Some control.Pause) w how = ⊥
IsDealingUnder (Some control.Claim) w how = how ≡ dealing_under (Some control.Claim) w
IsDealingUnder (Some control.Return) w how = how ≡ dealing_under (Some control.Return) w

-- it did so
abbrev pub DealsAt : Dealing → WorkerState → WorkerState → Type 0
DealsAt dealing.Nothing old new = new ≡ old
DealsAt dealing.Claims old new = ClaimsAt old new
DealsAt dealing.Returns old new = ReturnsAt old new

-- it may do so: a count is armed, and one who claims has not finished
abbrev pub MayDeal : Dealing → WorkerState → Type 0
MayDeal dealing.Nothing w = Unit {0}
MayDeal dealing.Claims w = (is_armed w ≡ true) × (w.finished ≡ false)
MayDeal dealing.Returns w = (is_armed w ≡ true) × (0 < w.restraint.hand) × (w.restraint.hand < 2 ^ 64)

-- it did what it was told
abbrev pub Acts : Option Control → WorkerState → WorkerState → Type 0
Acts None old new = new ≡ old
Acts (Some control.Pause) old new = new ≡ paused_at old
Acts (Some control.Claim) old new = DealsAt (dealing_under (Some control.Claim) old) old new
Acts (Some control.Return) old new = DealsAt (dealing_under (Some control.Return) old) old new
