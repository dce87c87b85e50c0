-- What it comes to that batches go on from one worker to another.
use Rattle.std.specs.Prelude.{◌≡◌, ℕ, ◌<◌, ◌==◌, List, length, slice_set, true}
use Rattle.std.specs.List.{list_any}
use Rattle.amber_worker.specs.AtPosition.{HasSameEnds}
use Rattle.amber_worker.specs.Pairs.{AreJoined, AreSettledAt, PassesOn, StaysAt}
use Rattle.amber_worker.specs.WorkerState.{WorkerState}
use Rattle.amber_dataflow.specs.AtWork.{AllHasCome, IsSameBesides, StayPut, worker_state_at}

-- the link of two of these workers is settled
abbrev pub Settled : List WorkerState → ℕ → ℕ → Type 0
Settled crew from to = AreSettledAt (worker_state_at crew from) (worker_state_at crew to)

-- all that the one has sent to the other has come there
abbrev pub Come : List WorkerState → ℕ → ℕ → Type 0
Come crew from to = AllHasCome (worker_state_at crew from) (worker_state_at crew to)

-- what the settling of a link asks for
pub record MayPass (crew : List WorkerState) (from to : ℕ) : Type 0 where
  pub before : from < to
  pub there : to < length crew
  pub sends : list_any (λ one. one.to == (worker_state_at crew to).number) (worker_state_at crew from).outs ≡ true
  pub receives : list_any (λ one. one.from == (worker_state_at crew from).number) (worker_state_at crew to).ins ≡ true
  pub joined : AreJoined (worker_state_at crew from) (worker_state_at crew to)

-- a worker's batches went on to another one, and nothing else has changed
pub record PassedOn (old : List WorkerState) (from to : ℕ) (new : List WorkerState) : Type 0 where
  pub before : from < to
  pub there : to < length old
  pub from_now : WorkerState
  pub to_now : WorkerState
  pub is : new ≡ slice_set (slice_set old from from_now) to to_now
  pub passes : PassesOn (worker_state_at old from) (worker_state_at old to) from_now to_now
  pub settled : AreSettledAt from_now to_now
  pub from_stays : StaysAt (worker_state_at old from) from_now
  pub to_stays : StaysAt (worker_state_at old to) to_now
  pub from_ends : HasSameEnds (worker_state_at old from) from_now
  pub to_ends : HasSameEnds (worker_state_at old to) to_now

-- links that were settled still are
abbrev pub SettledStay : List WorkerState → List WorkerState → Type 0
SettledStay old new = (from to : ℕ) → from < to → to < length old → Settled old from to → Settled new from to

-- all that was made for the first so many workers is in their inboxes
abbrev pub AreAllSettled : ℕ → List WorkerState → Type 0
AreAllSettled count crew = (to : ℕ) → to < count → (from : ℕ) → list_any (λ one. one.from == from) (worker_state_at crew to).ins ≡ true → Settled crew from to

-- the workers are as they were, but for batches at the ends of their links
abbrev pub AreSameBesides : List WorkerState → List WorkerState → Type 0
AreSameBesides old new = (worker : ℕ) → IsSameBesides (worker_state_at old worker) (worker_state_at new worker)

-- all that a worker has made, and all that was made for it, is in the inboxes, and nothing else has changed
pub record IsSettledAt (old new : List WorkerState) (worker : ℕ) : Type 0 where
  pub put : StayPut old new
  pub outs : (to : ℕ) → list_any (λ one. one.to == to) (worker_state_at old worker).outs ≡ true → Settled new worker to
  pub ins : (from : ℕ) → list_any (λ one. one.from == from) (worker_state_at old worker).ins ≡ true → Settled new from worker
  pub others : SettledStay old new
  pub aside : AreSameBesides old new
