-- Whether a worker may do a line of a log, by what it keeps, and the batch that it takes then.
use Rattle.std.specs.Prelude.{◌≡◌, ◌≢◌, ℕ, ◌&&◌, not, nat_lt, slice_index_or, Option, is_some, Bool}
use Rattle.amber_link.specs.Links.{has_some}
use Rattle.amber_link.specs.Sides.{have_all_ended}
use Rattle.amber_link.specs.declared.upstreams.Upstream.{Upstream}
use Rattle.amber_worker.specs.Redoing.{hand_before}
use Rattle.amber_worker.specs.Steps.{TakesBatch}
use Rattle.amber_worker.specs.WorkerState.{WorkerState, must_hold, stands_still}
use Rattle.amber_worker.specs.declared.redoing.Armed.{Armed}

-- a count is armed, and fewer units are in hand than these
abbrev pub lacks_units : Option Armed → ℕ → Bool
lacks_units armed units = is_some armed && nat_lt (hand_before armed) units

-- it may pause
abbrev pub pauses_again : WorkerState → Bool
pauses_again w = not w.finished && not w.restraint.paused

-- it may go on after a pause
abbrev pub resumes_again : WorkerState → Bool
resumes_again w = w.restraint.paused && (not w.finished && not w.restraint.held)

-- the next row holds it
abbrev pub holds_again : Option Armed → WorkerState → Bool
holds_again armed w = (not (stands_still w) && must_hold w) && not (lacks_units armed 1)

-- it may claim units
abbrev pub claims_again : Option Armed → WorkerState → Bool
claims_again armed w = is_some armed && not w.finished

-- nothing holds it back, and nothing is at hand
abbrev pub is_through : WorkerState → Bool
is_through w = not (stands_still w) && (not (has_some w.pending) && not (has_some w.rest))

-- nothing more can come
abbrev pub finishes_again : WorkerState → Bool
finishes_again w = is_through w && have_all_ended w.ins

-- a batch of the sender at this place was taken, and nothing changed of the others
pub record TakesAt (place : ℕ) (old new : WorkerState) : Type 0 where
  pub takes : TakesBatch old new
  pub others : (other : ℕ) (d : Upstream) → other ≢ place → slice_index_or new.ins other d ≡ slice_index_or old.ins other d
