-- The workers of an operator are changed one by one: where all stand then, and what has come of each.
use Rattle.std.proofs.Common.{◌≡◌, ◌≢◌, refl, sym, ap, subst, ◌∙◌, ℕ, ◌+◌, ◌<◌, ◌≤◌, length, set, true, is_some, inl, inr, arith, length-set}
use Rattle.std.proofs.lemmas.Bool.Decides.{eqb_tells}
use Rattle.amber_rows.specs.FlowRules.{IsFlow}
use Rattle.amber_rows.specs.Topology.{crew_of, first_worker_of, op_of, worker_count, workers_of}
use Rattle.amber_meaning.specs.Legal.{Query}
use Rattle.amber_meaning.specs.State.{State, arms_at}
use Rattle.amber_meaning.proofs.Crews.{place-worker, worker-known, worker-op}
use Rattle.amber_meaning.proofs.Numbers.{among}
use Rattle.amber_worker.specs.WorkerState.{WorkerState}
use Rattle.amber_dataflow.specs.AtWork.{is_counted, worker_state_at}
use Rattle.amber_dataflow.specs.Dataflow.{AreAllThere, DataflowState, MovesUnder, StandsUnder}
use Rattle.amber_dataflow.proofs.Crews.{at-each, here-now, there-still}
use Rattle.amber_dataflow.proofs.Emitted.{crew-few}
use Rattle.amber_boards.specs.Boards.{ChangesAt, IsSameButUnits, IsWorkerOf, StandsCounted}

-- ---- one change, and one after another

-- nothing has changed
pub unchanged : (op : ℕ) (d : DataflowState) → ChangesAt op d d
unchanged op d = record {
  flow = refl;
  long = refl;
  same = λ worker. refl;
  others = λ worker apart. refl;
  on = λ query start positions stand counted. (positions, stand);
}

-- a worker that was the same but for units twice is the same but for units
same-then : (old mid new : WorkerState) → IsSameButUnits old mid → IsSameButUnits mid new → IsSameButUnits old new
same-then old mid new first second =
    second ∙ ap (λ (w : WorkerState). record w { seat = new.seat; restraint = record w.restraint { hand = new.restraint.hand }; journal = new.journal; reserved = new.reserved }) first

-- two changes are one
pub changes-then : (op : ℕ) (old mid new : DataflowState) → ChangesAt op old mid → ChangesAt op mid new → ChangesAt op old new
changes-then op old mid new first second = record {
  flow = second.flow ∙ first.flow;
  long = second.long ∙ first.long;
  same = λ worker. same-then (worker_state_at old.workers worker) (worker_state_at mid.workers worker) (worker_state_at new.workers worker) (first.same worker) (second.same worker);
  others = λ worker apart. second.others worker (λ own. apart (ap (λ f. op_of f worker) (sym first.flow) ∙ own)) ∙ first.others worker apart;
  on = λ query start positions stand counted.
      let one = first.on query start positions stand counted in
      second.on query start one.0 one.1 counted;
}

-- a count is in force at a worker where one is at its operator
pub counted-there : (query : Query) (start : State) (d : DataflowState) (op worker : ℕ) → d.flow ≡ query.flow → op_of d.flow worker ≡ op
    → is_some (arms_at start op).count ≡ true → is_counted query start worker ≡ true
counted-there query start d op worker flow own counted =
    subst (λ n. is_some (arms_at start n).count ≡ true) (sym own ∙ ap (λ f. op_of f worker) flow) counted

-- a worker is this now
abbrev pub put_at : DataflowState → ℕ → WorkerState → DataflowState
put_at d worker now = record d { workers = set d.workers worker now }

-- a worker of the operator that is the same but for units, and that stands somewhere, takes the place of what it was
pub changes-put : (op : ℕ) (d : DataflowState) (worker : ℕ) (now : WorkerState) → worker < length d.workers → op_of d.flow worker ≡ op
    → IsSameButUnits (worker_state_at d.workers worker) now → MovesUnder true d (put_at d worker now) worker → ChangesAt op d (put_at d worker now)
unfolding MovesUnder
changes-put op d worker now inside own same moves = record {
  flow = refl;
  long = length-set d.workers worker now;
  same = at-each (λ k. IsSameButUnits (worker_state_at d.workers k) (worker_state_at (set d.workers worker now) k)) worker
      (subst (IsSameButUnits (worker_state_at d.workers worker)) (sym (here-now d.workers worker now inside)) same)
      (λ k apart. subst (IsSameButUnits (worker_state_at d.workers k)) (sym (there-still d.workers worker now inside k apart)) refl);
  others = λ k apart. there-still d.workers worker now inside k (λ is. apart (ap (op_of d.flow) is ∙ own));
  on = λ query start positions stand counted.
      let moved = moves query start positions stand (counted-there query start d op worker stand.flow own counted) in
      (moved.0, moved.1);
}

-- ---- the first workers

-- so many workers of an operator were changed, from the first one on, each as is said of its place, and those after them are as they were
pub record AreChanged (op first n : ℕ) (Is : ℕ → WorkerState → Type 0) (old new : DataflowState) : Type 0 where
  pub change : ChangesAt op old new
  pub here : (place : ℕ) → place < n → Is place (worker_state_at new.workers (first + place))
  pub later : (worker : ℕ) → first + n ≤ worker → worker_state_at new.workers worker ≡ worker_state_at old.workers worker

-- none was
pub changed-none : (op first : ℕ) (Is : ℕ → WorkerState → Type 0) (d : DataflowState) → AreChanged op first 0 Is d d
changed-none op first Is d = record {
  change = unchanged op d;
  here = λ place less. absurd (omega arith);
  later = λ worker after. refl;
}

-- one of the operator's workers
pub own-place : (d : DataflowState) (op first place : ℕ) → first ≡ first_worker_of d.flow op → place < worker_count d.flow op → IsWorkerOf d op (first + place)
own-place d op first place first-is less =
    let known : among (first + place) (workers_of d.flow op) ≡ true = rw first-is (place-worker d.flow op place less) in
    (worker-known d.flow op (first + place) known, worker-op d.flow op (first + place) known)

-- they stand somewhere, so that their workflow is one
pub is-flow : (op : ℕ) (d : DataflowState) → StandsCounted op d → IsFlow d.flow
is-flow op d stand = subst IsFlow (sym stand.3.flow) stand.3.work.at.flow

-- its number is small
pub place-few : (d : DataflowState) (op first place : ℕ) → StandsCounted op d → first ≡ first_worker_of d.flow op → place < worker_count d.flow op → first + place < 128
place-few d op first place stand first-is less =
    let known = own-place d op first place first-is less in
    let there = known.0 in
    let few = crew-few d.flow (is-flow op d stand) in
    omega arith

module _ (op first n : ℕ) (Is : ℕ → WorkerState → Type 0) (old mid : DataflowState) (before : AreChanged op first n Is old mid) (all : AreAllThere old) where
  -- all workers are there still
  pub all-there : AreAllThere mid
  all-there = before.change.long ∙ all ∙ ap crew_of (sym before.change.flow)

  -- the next worker is as it was
  pub next-still : worker_state_at mid.workers (first + n) ≡ worker_state_at old.workers (first + n)
  next-still = before.later (first + n) (omega arith)

module _ (op first n : ℕ) (Is : ℕ → WorkerState → Type 0) (old mid : DataflowState) (before : AreChanged op first n Is old mid) (all : AreAllThere old)
    (first-is : first ≡ first_worker_of old.flow op) (less : n < worker_count old.flow op) where
  -- the next worker is there
  pub next-there : first + n < crew_of mid.flow
  next-there = rw before.change.flow (own-place old op first n first-is less).0

  -- it is one of the operator
  pub next-own : op_of mid.flow (first + n) ≡ op
  next-own = ap (λ f. op_of f (first + n)) before.change.flow ∙ (own-place old op first n first-is less).1

  -- they stand in a leg in which a count is in force at it
  pub next-under : StandsCounted op old → StandsUnder true mid (first + n)
  next-under stand =
      let again = before.change.on stand.0 stand.1 stand.2 stand.3 stand.4 in
      (stand.0, stand.1, again.0, again.1, counted-there stand.0 stand.1 mid op (first + n) again.1.flow next-own stand.4)

  -- it is changed too
  pub changed-next : (now : WorkerState) → Is n now → IsSameButUnits (worker_state_at mid.workers (first + n)) now → MovesUnder true mid (put_at mid (first + n) now) (first + n)
      → AreChanged op first (n + 1) Is old (put_at mid (first + n) now)
  changed-next now is same moves =
      let there = all-there op first n Is old mid before all in
      let known = next-there in
      let inside : first + n < length mid.workers = omega arith in
      record {
        change = changes-then op old mid (put_at mid (first + n) now) before.change (changes-put op mid (first + n) now inside next-own same moves);
        here = λ place below.
            elim (eqb_tells place n) [
              | inl here ↦ subst (λ k. Is k (worker_state_at (set mid.workers (first + n) now) (first + k))) (sym here.1)
                  (subst (Is n) (sym (here-now mid.workers (first + n) now inside)) is)
              | inr other ↦
                  let ne = other.1 in
                  let apart : first + place ≢ first + n = λ e. ne (omega arith) in
                  subst (Is place) (sym (there-still mid.workers (first + n) now inside (first + place) apart)) (before.here place (omega arith))
            ];
        later = λ worker after.
            let apart : worker ≢ first + n = λ e. absurd (omega arith) in
            there-still mid.workers (first + n) now inside worker apart ∙ before.later worker (omega arith);
      }
