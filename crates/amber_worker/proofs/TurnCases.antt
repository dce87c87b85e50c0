-- Which turn comes, by what is so of a worker.
use Rattle.std.proofs.Common.{◌≡◌, Bool, true, false, if◌then◌else◌, refl, sym}
use Rattle.std.proofs.lemmas.Bool.{false≢true}
use Rattle.amber_link.specs.Links.{has_some}
use Rattle.amber_link.specs.Sides.{have_all_ended}
use Rattle.amber_worker.specs.Turning.{IsNextTurn}
use Rattle.amber_worker.specs.WorkerState.{WorkerState, has_ready, is_starved, must_hold}
use Rattle.amber_worker.specs.declared.turn.Turn.{Turn}
use Rattle.amber_worker.specs.declared.turn.Turn.TheVariants as turn

-- the turn that a worker makes, by what is so of it
abbrev pub turn_by : Bool → Bool → Bool → Bool → Bool → Bool → Bool → Bool → Bool → Turn
turn_by finished paused held pending starved holds rest ready ended =
    if finished then turn.Ended
    else if paused then turn.Paused
    else if held then turn.Held
    else if pending then (if starved then turn.Starved else if holds then turn.Held else turn.Moved)
    else if rest then (if starved then turn.Starved else turn.Moved)
    else if ready then turn.Moved
    else if ended then turn.Moved
    else turn.Idle

-- one that moves is free
pub moves-free : (a b c d e f g h i : Bool) → turn.Moved ≡ turn_by a b c d e f g h i → (a ≡ false) × (b ≡ false) × (c ≡ false)
moves-free true b c d e f g h i is = (cc, cc, cc)
moves-free false true c d e f g h i is = (cc, cc, cc)
moves-free false false true d e f g h i is = (cc, cc, cc)
moves-free false false false d e f g h i is = (refl, refl, refl)

-- one that moves where a row is pending has a unit, and the row does not hold it
pub moves-on : (a b c e f g h i : Bool) → turn.Moved ≡ turn_by a b c true e f g h i → (e ≡ false) × (f ≡ false)
moves-on true b c e f g h i is = (cc, cc)
moves-on false true c e f g h i is = (cc, cc)
moves-on false false true e f g h i is = (cc, cc)
moves-on false false false true f g h i is = (cc, cc)
moves-on false false false false true g h i is = (cc, cc)
moves-on false false false false false g h i is = (refl, refl)

-- one that moves where a row is left has a unit
pub moves-takes : (a b c e f h i : Bool) → turn.Moved ≡ turn_by a b c false e f true h i → e ≡ false
moves-takes true b c e f h i is = cc
moves-takes false true c e f h i is = cc
moves-takes false false true e f h i is = cc
moves-takes false false false true f h i is = cc
moves-takes false false false false f h i is = refl

-- one that is held was held before, or its next row holds it
pub record IsHeldBy (held finished paused pending starved holds : Bool) : Type 0 where
  pub loose : held ≡ false
  pub unfinished : finished ≡ false
  pub running : paused ≡ false
  pub some : pending ≡ true
  pub fed : starved ≡ false
  pub must : holds ≡ true

pub holds-by : (a b c d e f g h i : Bool) → turn.Held ≡ turn_by a b c d e f g h i → c ≡ false → IsHeldBy c a b d e f
holds-by true b c d e f g h i is loose = record { loose = loose; unfinished = cc; running = cc; some = cc; fed = cc; must = cc }
holds-by false true c d e f g h i is loose = record { loose = loose; unfinished = cc; running = cc; some = cc; fed = cc; must = cc }
holds-by false false true d e f g h i is loose = absurd (false≢true (sym loose))
holds-by false false false true true f g h i is loose = record { loose = loose; unfinished = cc; running = cc; some = cc; fed = cc; must = cc }
holds-by false false false true false true g h i is loose = record { loose = refl; unfinished = refl; running = refl; some = refl; fed = refl; must = refl }
holds-by false false false true false false g h i is loose = record { loose = loose; unfinished = cc; running = cc; some = cc; fed = cc; must = cc }
holds-by false false false false true f true h i is loose = record { loose = loose; unfinished = cc; running = cc; some = cc; fed = cc; must = cc }
holds-by false false false false false f true h i is loose = record { loose = loose; unfinished = cc; running = cc; some = cc; fed = cc; must = cc }
holds-by false false false false e f false true i is loose = record { loose = loose; unfinished = cc; running = cc; some = cc; fed = cc; must = cc }
holds-by false false false false e f false false true is loose = record { loose = loose; unfinished = cc; running = cc; some = cc; fed = cc; must = cc }
holds-by false false false false e f false false false is loose = record { loose = loose; unfinished = cc; running = cc; some = cc; fed = cc; must = cc }

-- ---- why a worker stands still

starves-test : (a b c d e f g h i : Bool) → turn.Starved ≡ turn_by a b c d e f g h i → e ≡ true
starves-test true b c d e f g h i is = cc
starves-test false true c d e f g h i is = cc
starves-test false false true d e f g h i is = cc
starves-test false false false d true f g h i is = refl
starves-test false false false true false true g h i is = cc
starves-test false false false true false false g h i is = cc
starves-test false false false false false f true h i is = cc
starves-test false false false false false f false true i is = cc
starves-test false false false false false f false false true is = cc
starves-test false false false false false f false false false is = cc

pauses-test : (a b c d e f g h i : Bool) → turn.Paused ≡ turn_by a b c d e f g h i → b ≡ true
pauses-test true b c d e f g h i is = cc
pauses-test false true c d e f g h i is = refl
pauses-test false false true d e f g h i is = cc
pauses-test false false false true true f g h i is = cc
pauses-test false false false true false true g h i is = cc
pauses-test false false false true false false g h i is = cc
pauses-test false false false false true f true h i is = cc
pauses-test false false false false false f true h i is = cc
pauses-test false false false false e f false true i is = cc
pauses-test false false false false e f false false true is = cc
pauses-test false false false false e f false false false is = cc

ends-test : (a b c d e f g h i : Bool) → turn.Ended ≡ turn_by a b c d e f g h i → a ≡ true
ends-test true b c d e f g h i is = refl
ends-test false true c d e f g h i is = cc
ends-test false false true d e f g h i is = cc
ends-test false false false true true f g h i is = cc
ends-test false false false true false true g h i is = cc
ends-test false false false true false false g h i is = cc
ends-test false false false false true f true h i is = cc
ends-test false false false false false f true h i is = cc
ends-test false false false false e f false true i is = cc
ends-test false false false false e f false false true is = cc
ends-test false false false false e f false false false is = cc

pub starves-by : (w : WorkerState) → IsNextTurn w turn.Starved → is_starved w ≡ true
starves-by w next =
    starves-test w.finished w.restraint.paused w.restraint.held (has_some w.pending) (is_starved w) (must_hold w) (has_some w.rest) (has_ready next.found) (have_all_ended next.found) next.is

pub pauses-by : (w : WorkerState) → IsNextTurn w turn.Paused → w.restraint.paused ≡ true
pauses-by w next =
    pauses-test w.finished w.restraint.paused w.restraint.held (has_some w.pending) (is_starved w) (must_hold w) (has_some w.rest) (has_ready next.found) (have_all_ended next.found) next.is

pub ends-by : (w : WorkerState) → IsNextTurn w turn.Ended → w.finished ≡ true
ends-by w next =
    ends-test w.finished w.restraint.paused w.restraint.held (has_some w.pending) (is_starved w) (must_hold w) (has_some w.rest) (has_ready next.found) (have_all_ended next.found) next.is
