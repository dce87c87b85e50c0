-- One worker's turn leaves all workers standing, and so does moving batches from one to another.
use Rattle.std.proofs.Common.{◌≡◌, ◌≢◌, refl, sym, subst, ◌∙◌, ℕ, ◌<◌, List, length, set, nat_eq, Bool, true, if◌then◌else◌, inl, inr, get_or-set_same, get_or-set_other, length-set}
use Rattle.std.proofs.lemmas.Bool.{eq-eqb, ne_eqb}
use Rattle.std.proofs.lemmas.Bool.Decides.{eqb_tells}
use Rattle.amber_rows.specs.Topology.{crew_of}
use Rattle.amber_meaning.specs.Legal.{Query}
use Rattle.amber_meaning.specs.Position.{Position}
use Rattle.amber_meaning.specs.State.{State, position_at}
use Rattle.amber_worker.specs.AtPosition.{HasSameEnds, IsAtPosition, KeepsUnder}
use Rattle.amber_worker.specs.Pairs.{AreJoined, StaysAt}
use Rattle.amber_worker.specs.WorkerState.{WorkerState}
use Rattle.amber_worker.proofs.Turns.{ends-same}
use Rattle.amber_dataflow.specs.AtWork.{AreJoinedAt, context_in, is_counted, no_worker_state, worker_state_at}
use Rattle.amber_dataflow.proofs.Linked.{joined-still}

-- ---- positions

-- another position at one place
abbrev pub placed : (ℕ → Position) → ℕ → Position → ℕ → Position
placed positions worker p other = if nat_eq other worker then p else positions other

-- a fact at every place, from one at this place and one at all others
pub at-each : (P : ℕ → Type 0) (place : ℕ) → P place → ((other : ℕ) → other ≢ place → P other) → (k : ℕ) → P k
at-each P place here there k = elim (eqb_tells k place) [ inl h ↦ subst P (sym h.1) here | inr h ↦ there k h.1 ]

pub same-place : (place : ℕ) → nat_eq place place ≡ true
same-place place = eq-eqb place place refl

-- ---- a worker in the place of another

module _ (crew : List WorkerState) (worker : ℕ) (now : WorkerState) (inside : worker < length crew) where
  pub here-now : worker_state_at (set crew worker now) worker ≡ now
  here-now = get_or-set_same crew worker now no_worker_state inside

  pub there-still : (other : ℕ) → other ≢ worker → worker_state_at (set crew worker now) other ≡ worker_state_at crew other
  there-still other ne = get_or-set_other crew worker other now no_worker_state ne

  -- all have the same ends, where this one has
  pub ends-each : HasSameEnds (worker_state_at crew worker) now → (k : ℕ) → HasSameEnds (worker_state_at crew k) (worker_state_at (set crew worker now) k)
  ends-each same = at-each (λ k. HasSameEnds (worker_state_at crew k) (worker_state_at (set crew worker now) k)) worker
      (subst (λ w. HasSameEnds (worker_state_at crew worker) w) (sym here-now) same)
      (λ other ne. ends-same (worker_state_at crew other) (worker_state_at (set crew worker now) other) (there-still other ne))

-- two lists of workers of whom each has the same ends are joined alike
pub joined-each : (old new : List WorkerState) → ((k : ℕ) → HasSameEnds (worker_state_at old k) (worker_state_at new k)) → (from to : ℕ)
    → AreJoined (worker_state_at old from) (worker_state_at old to) → AreJoined (worker_state_at new from) (worker_state_at new to)
joined-each old new same from to joined =
    joined-still (worker_state_at old from) (worker_state_at old to) (worker_state_at new from) (worker_state_at new to) (same from) (same to) joined

-- ---- a turn

module _ (query : Query) (start : State) (crew : List WorkerState) (positions : ℕ → Position) (worker : ℕ) (now : WorkerState) where
  -- a worker that kept standing, with the same ends, may take the place of what it was
  pub joined-turned : AreJoinedAt query start crew positions → worker < length crew → (counted : Bool) → is_counted query start worker ≡ counted
      → KeepsUnder counted (worker_state_at crew worker) now → HasSameEnds (worker_state_at crew worker) now
      → (q : Position) × AreJoinedAt query start (set crew worker now) (placed positions worker q)
  unfolding KeepsUnder
  joined-turned at inside counted under keeps same =
      let here : worker < crew_of query.flow = rw (← at.at_positions.all) inside in
      let moved = keeps (context_in at.at_positions.bases query start worker) (position_at start.positions worker) (positions worker)
      under
      (at.at_positions.each worker here) in
      let q = moved.0 in (
        q,
        record {
          flow = at.flow;
          at_positions = record {
            bases = at.at_positions.bases;
            earlier = at.at_positions.earlier;
            all = length-set crew worker now ∙ at.at_positions.all;
            each = at-each (λ k. k < crew_of query.flow → IsAtPosition (context_in at.at_positions.bases query start k)
                (worker_state_at (set crew worker now) k) (position_at start.positions k) (placed positions worker q k)) worker
                (λ h. rw (here-now crew worker now inside, same-place worker) moved.1)
                (λ k ne h. rw (there-still crew worker now inside k ne, ne_eqb k worker ne) (at.at_positions.each k h));
          };
          joined = λ from to from-in to-in.
              joined-each crew (set crew worker now) (ends-each crew worker now inside same) from to (at.joined from to from-in to-in);
        },
      )

-- ---- batches go on

module _ (query : Query) (start : State) (crew : List WorkerState) (positions : ℕ → Position) (worker : ℕ) (now : WorkerState) where
  -- a worker that stays where it stood, with the same ends, may take the place of what it was
  pub joined-stays : AreJoinedAt query start crew positions → worker < length crew → StaysAt (worker_state_at crew worker) now → HasSameEnds (worker_state_at crew worker) now
      → AreJoinedAt query start (set crew worker now) positions
  unfolding StaysAt
  joined-stays at inside stays same = record {
    flow = at.flow;
    at_positions = record {
      bases = at.at_positions.bases;
      earlier = at.at_positions.earlier;
      all = length-set crew worker now ∙ at.at_positions.all;
      each = at-each (λ k. k < crew_of query.flow → IsAtPosition (context_in at.at_positions.bases query start k)
          (worker_state_at (set crew worker now) k) (position_at start.positions k) (positions k)) worker
          (λ h. rw (here-now crew worker now inside)
          (stays (context_in at.at_positions.bases query start worker) (position_at start.positions worker) (positions worker) (at.at_positions.each worker h)))
          (λ k ne h. rw (there-still crew worker now inside k ne) (at.at_positions.each k h));
    };
    joined = λ from to from-in to-in.
        joined-each crew (set crew worker now) (ends-each crew worker now inside same) from to (at.joined from to from-in to-in);
  }
