-- The rule of a leg is movement and offering.
use Rattle.std.proofs.Common.{◌≡◌, List, Bool}
use Rattle.amber_log.specs.declared.leg.Part.{Part}
use Rattle.amber_log.specs.declared.log.Log.{Log}
use Rattle.amber_meaning.specs.Legal.{AreOffered, IsOpen, IsWorked, Query, leg_start}
use Rattle.amber_meaning.specs.State.{State}
use Rattle.amber_lines.specs.Moving.{HaveMoved, IsUnderway}
use Rattle.amber_lines.specs.MovingLaws.{OpenIsMovingAndOffering, WorkIsMovingAndOffering}

pub moved-of : (query : Query) (before after : State) (parts : List Part) → IsWorked query before parts after → HaveMoved query before parts after
moved-of query before after parts h = record { same_arms = h.same_arms; crew = h.crew; known = h.known; moved = h.moved }

pub after_leg-of : (query : Query) (before after : State) (parts : List Part) → HaveMoved query before parts after → AreOffered query after.positions
    → IsWorked query before parts after
after_leg-of query before after parts h offered = record { same_arms = h.same_arms; crew = h.crew; known = h.known; moved = h.moved; offered = offered }

pub work_is_moving_and_offering : WorkIsMovingAndOffering
work_is_moving_and_offering query before after parts =
    (λ h. (moved-of query before after parts h, h.offered), λ h. after_leg-of query before after parts h.0 h.1)

underway-of : (query : Query) (log : Log) (to_end : Bool) (parts : List Part) (now : State) → (leg : IsOpen query log to_end parts) → leg.now ≡ now
    → (moved : IsUnderway query log to_end parts) × (moved.now ≡ now) × AreOffered query now.positions
underway-of query log to_end parts now leg same = (
  record { legal = leg.legal; more = leg.more; text = leg.text; now = leg.now; moved = moved-of query (leg_start to_end leg.legal.after) leg.now parts leg.worked; few = leg.few },
  same,
  rw (← same) leg.worked.offered,
)

pub open_is_moving_and_offering : OpenIsMovingAndOffering
open_is_moving_and_offering query log to_end parts now = (
  λ h. underway-of query log to_end parts now h.0 h.1,
  λ h. (
    record { legal = h.0.legal; more = h.0.more; text = h.0.text; now = h.0.now; worked = after_leg-of query (leg_start to_end h.0.legal.after) h.0.now parts h.0.moved (rw h.1 h.2); few = h.0.few },
    h.1,
  ),
)
