-- What a leg leaves of a home.
use Rattle.std.specs.Prelude.{◌≡◌, ◌≢◌, ◌⊎◌, ℕ, ◌+◌, ◌*◌, ◌^◌, ◌<◌, ◌≤◌, List, [], Some, length, slice_index_or, sum, Result, Ok, Err, Bool, true}
use Rattle.amber_log.specs.declared.leg.Close.{Close}
use Rattle.amber_log.specs.declared.leg.Close.TheVariants as close
use Rattle.amber_log.specs.declared.leg.Part.{Part}
use Rattle.amber_rows.specs.Topology.{crew_of, workers_of}
use Rattle.amber_meaning.specs.InTime.{IsInTime}
use Rattle.amber_meaning.specs.Legal.{leg_start}
use Rattle.amber_meaning.specs.State.{arms_at, emitted_by, position_at, steps_in}
use Rattle.amber_home.specs.HomeState.{ClosesIn, HomeState, NoneIsHeld, alone_more, item_of_leg, leg_state, query_of, rest_state, runs_to_end, spent_at, state_of, stops_of_home, with_item}
use Rattle.amber_home.specs.declared.phase.Counts.{Counts}
use Rattle.amber_home.specs.declared.phase.Counts.TheVariants.{Armed}
use Rattle.amber_home.specs.declared.phase.Phase.TheVariants as phase
use Rattle.amber_leg.specs.declared.error.LegErr.{LegErr}
use Rattle.amber_leg.specs.declared.error.LegErr.TheVariants as leg_err

-- the most rows that a worker emits past its operator's pause: those of a round
abbrev pub most_late : ℕ
most_late = 1024

-- the most turns of a worker in a round
abbrev pub most_turned : ℕ
most_turned = 65536

-- for how many turns a worker was driven in the leg
abbrev pub turned_at : HomeState → ℕ → ℕ
turned_at e worker = slice_index_or e.turned worker 0

-- each worker was driven for as many turns as steps were made at home, but for as many as there are workers at most
abbrev pub AreDriven : HomeState → Type 0
AreDriven e = (worker : ℕ) → worker < crew_of e.flow → e.alone ≤ turned_at e worker + crew_of e.flow

-- the leg stands in the log, closed so and in time, and nothing else has changed but for how many steps were made at home, and for how
-- many turns workers were driven: of the steps that the leg added none was made otherwise
pub record ClosesLeg (to_end : Bool) (old new : HomeState) (closed : Close) : Type 0 where
  pub parts : List Part
  pub so : ClosesIn to_end (query_of old) (leg_state old to_end parts) closed
  pub in_time : IsInTime (query_of old) most_late (rest_state old) (item_of_leg to_end parts closed)
  pub driven : AreDriven new
  pub steps : steps_in (leg_state old to_end parts) ≤ steps_in (leg_start to_end (rest_state old)) + new.alone + sum new.turned
  pub is : new ≡ record old {
    log = with_item old.log (item_of_leg to_end parts closed);
    phase = phase.Resting;
    parts = [];
    alone = new.alone;
    turned = new.turned;
  }

-- what a leg leaves: a stop stands, to the end all have finished; or the steps are as many as may be, and that is not so; or memory
-- ran out
abbrev pub Ends : Result (Unit {0}) LegErr → Bool → HomeState → HomeState → Type 0
Ends (Ok done) to_end old new = ClosesLeg to_end old new close.Cut
Ends (Err leg_err.Long) to_end old new = ClosesLeg to_end old new close.Long
Ends (Err leg_err.NoMemory) to_end old new = new ≡ record (spent_at old) { alone = new.alone }

-- ---- within a leg

-- no operator has emitted more rows than its pause asks for, and those of a round more
abbrev pub AreOnTime : HomeState → Type 0
AreOnTime e = (op n : ℕ) → (arms_at (state_of e) op).pause ≡ Some n
    → emitted_by e.flow (state_of e) op ≤ n + most_late * length (workers_of e.flow op)

-- the workers have made turns, so many at most, and have come back: the home may have made more steps, not more than may be, and an operator
-- has emitted at most so many rows more a worker
pub record MakesRound (turns : ℕ) (old new : HomeState) : Type 0 where
  pub only : new ≡ record old { parts = new.parts; turned = new.turned }
  pub more : steps_in (state_of old) ≤ steps_in (state_of new)
  pub few : steps_in (state_of new) ≤ old.most
  pub rows : (op : ℕ) → emitted_by old.flow (state_of new) op ≤ emitted_by old.flow (state_of old) op + turns * length (workers_of old.flow op)
  pub some : 1 ≤ turns → (worker : ℕ) → worker < crew_of old.flow → turned_at old worker + 1 ≤ turned_at new worker
  pub grown : (worker : ℕ) → turned_at old worker ≤ turned_at new worker
  pub within : (worker : ℕ) → turned_at new worker ≤ turned_at old worker + turns
  pub driven : steps_in (state_of new) + sum old.turned ≤ steps_in (state_of old) + sum new.turned

-- an operator's pause, if it has one, is farther than its workers come in a round
abbrev pub IsFarAt : HomeState → ℕ → Type 0
IsFarAt e op = (n : ℕ) → (arms_at (state_of e) op).pause ≡ Some n
    → emitted_by e.flow (state_of e) op + most_turned * length (workers_of e.flow op) ≤ n

-- so is that of each operator
abbrev pub AreFar : HomeState → Type 0
AreFar e = (op : ℕ) → 0 < op → op ≤ length e.flow → IsFarAt e op

-- workers may make so many turns each in a round: few, or all pauses are far
abbrev pub StaysInTime : ℕ → HomeState → Type 0
StaysInTime turns e = (turns ≤ most_late) ⊎ ((turns ≤ most_turned) × AreFar e)

-- workers may be driven for so many turns more, none of which is not counted
abbrev pub MayCount : ℕ → HomeState → Type 0
MayCount turns e = (worker : ℕ) → turned_at e worker + turns < 2 ^ 64

-- a round was made: each worker was driven for a turn at least where as many steps were left as there are workers, and no step was made
-- at home
pub record DrivesRound (old new : HomeState) : Type 0 where
  pub alone : new.alone ≡ old.alone
  pub some : steps_in (state_of old) + crew_of old.flow ≤ old.most → (worker : ℕ) → worker < crew_of old.flow
      → turned_at old worker + 1 ≤ turned_at new worker
  pub grown : (worker : ℕ) → turned_at old worker ≤ turned_at new worker
  pub within : (worker : ℕ) → turned_at new worker ≤ turned_at old worker + most_turned
  pub driven : steps_in (state_of new) + sum old.turned ≤ steps_in (state_of old) + sum new.turned

-- a step was made at home, and nobody was driven
pub record StepsAlone (old new : HomeState) : Type 0 where
  pub alone : new.alone ≡ alone_more old.alone
  pub turned : new.turned ≡ old.turned
  pub one : steps_in (state_of new) ≤ steps_in (state_of old) + 1

-- rounds may be ended: no step was made at home, each worker was driven for as many turns as before or more
pub record EndsRounds (old new : HomeState) : Type 0 where
  pub alone : new.alone ≡ old.alone
  pub grown : (worker : ℕ) → turned_at old worker ≤ turned_at new worker
  pub more : steps_in (state_of old) ≤ steps_in (state_of new)
  pub driven : steps_in (state_of new) + sum old.turned ≤ steps_in (state_of old) + sum new.turned

-- a round was made, and a step at home behind it
pub record MakesRoundAndStep (old new : HomeState) : Type 0 where
  pub between : HomeState
  pub round : DrivesRound old between
  pub more : steps_in (state_of old) ≤ steps_in (state_of between)
  pub left : steps_in (state_of between) < old.most
  pub step : StepsAlone between new

-- a leg was opened, in which nobody has made a step or a turn yet
pub record IsUndriven (e : HomeState) : Type 0 where
  pub alone : e.alone ≡ 0
  pub turned : (worker : ℕ) → turned_at e worker ≡ 0

-- such a leg was driven: of the steps that it added none was made but at home, or by a worker in a turn that it was driven for
pub record AddsUp (old new : HomeState) : Type 0 where
  pub driven : AreDriven new
  pub steps : steps_in (state_of new) ≤ steps_in (state_of old) + new.alone + sum new.turned

-- a worker is held
abbrev pub IsOneHeld : HomeState → Type 0
IsOneHeld e = (worker : ℕ) × ((position_at (state_of e).positions worker).restraint.held ≡ true)

-- the leg has gone on, in time, and nothing else has changed
pub record GoesFurther (old new : HomeState) : Type 0 where
  pub only : new ≡ record old { parts = new.parts; alone = new.alone; turned = new.turned }
  pub on_time : AreOnTime old → AreOnTime new

-- nobody was held, and a step more was made at least, but where one is held now
pub record MovesOn (old new : HomeState) : Type 0 where
  pub loose : NoneIsHeld old
  pub few : steps_in (state_of new) ≤ old.most
  pub steps : (steps_in (state_of old) + 1 ≤ steps_in (state_of new)) ⊎ (IsOneHeld new × (steps_in (state_of old) ≤ steps_in (state_of new)))

-- a leg in which nothing was done yet was driven: counts are not armed any more, nothing else has changed, and it is in time
pub record DrivesLeg (old new : HomeState) : Type 0 where
  pub counts : Counts
  pub unarmed : counts ≢ Armed
  pub only : new ≡ record old {
    phase = phase.Open (runs_to_end old.phase) counts;
    parts = new.parts;
    alone = new.alone;
    turned = new.turned;
  }
  pub driven : AddsUp old new
  pub in_time : (new.parts ≡ old.parts) ⊎ ((stops_of_home old ≡ []) × AreOnTime new)
