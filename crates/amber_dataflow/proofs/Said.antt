-- What is read of the workers is what the state that they reached says.
use Rattle.std.proofs.Common.{◌≡◌, refl, sym, ap, ◌∙◌, ℕ, zero, suc, ◌+◌, ◌<◌, List, [], ◌∷◌, length, map, sum_by, Bool, true, false, ◌&&◌, arith}
use Rattle.std.specs.List.{list_all}
use Rattle.std.proofs.lemmas.Bool.{and_parts, false≢true}
use Rattle.std.proofs.lemmas.List.Sums.{sum_by-cons}
use Rattle.amber_rows.specs.Topology.{crew_of, workers_of}
use Rattle.amber_meaning.specs.Legal.{Query}
use Rattle.amber_meaning.specs.Position.{Position, emitted_count}
use Rattle.amber_meaning.specs.State.{State, crew_at, emitted_by, have_finished, position_at}
use Rattle.amber_meaning.proofs.Crews.{worker-known}
use Rattle.amber_meaning.proofs.Numbers.{among, among-first, among-more}
use Rattle.amber_worker.specs.WorkerState.{WorkerState}
use Rattle.amber_dataflow.specs.AtWork.{AreAtWork, HaveFinished, emitted_at, state_reached, worker_state_at}
use Rattle.amber_dataflow.specs.AtWork.{state_reached}
use Rattle.amber_dataflow.proofs.Within.{finished-reached, position-here, unfinished-reached}

-- ---- whether all have finished

pub all-have : (crew : List WorkerState) → list_all (λ (w : WorkerState). w.finished) crew ≡ true → HaveFinished (length crew) crew
all-have [] e k less = absurd (omega arith)
all-have (w ∷ crew) e zero less = (and_parts w.finished _ e).0
all-have (w ∷ crew) e (suc k) less = all-have crew (and_parts w.finished _ e).1 k (omega arith)

pub some-has-not : (crew : List WorkerState) → list_all (λ (w : WorkerState). w.finished) crew ≡ false
    → (worker : ℕ) × (worker < length crew) × ((worker_state_at crew worker).finished ≡ false)
some-has-not [] e = absurd (false≢true (sym e))
some-has-not (w ∷ crew) e = by w.finished refl e (some-has-not crew)
  where
    by : (b : Bool) → w.finished ≡ b → (b && list_all (λ (w : WorkerState). w.finished) crew) ≡ false
        → (list_all (λ (w : WorkerState). w.finished) crew ≡ false → (worker : ℕ) × (worker < length crew) × ((worker_state_at crew worker).finished ≡ false))
        → (worker : ℕ) × (worker < length (w ∷ crew)) × ((worker_state_at (w ∷ crew) worker).finished ≡ false)
    by false is e rest = (0, omega arith, is)
    by true is e rest = let one = rest e in let less = one.1 in (suc one.0, omega arith, one.2)

pub have-all : (crew : List WorkerState) → HaveFinished (length crew) crew → list_all (λ (w : WorkerState). w.finished) crew ≡ true
have-all [] done = refl
have-all (w ∷ crew) done = rw (done 0 (omega arith)) (have-all crew (λ k less. done (suc k) (omega arith)))

pub has-not : (crew : List WorkerState) (worker : ℕ) → worker < length crew → (worker_state_at crew worker).finished ≡ false → list_all (λ (w : WorkerState). w.finished) crew ≡ false
has-not [] worker less e = absurd (omega arith)
has-not (w ∷ crew) zero less e = rw e refl
has-not (w ∷ crew) (suc k) less e = by w.finished (has-not crew k (omega arith) e)
  where
    by : (b : Bool) → list_all (λ (w : WorkerState). w.finished) crew ≡ false → (b && list_all (λ (w : WorkerState). w.finished) crew) ≡ false
    by true rest = rest
    by false rest = refl

-- ---- the rows that an operator has emitted

module _ (query : Query) (start : State) (crew : List WorkerState) (positions : ℕ → Position) (work : AreAtWork query start crew positions) where
  abbrev reached : State
  reached = state_reached query start positions

  emitted-here : (worker : ℕ) → worker < crew_of query.flow → emitted_count (position_at reached.positions worker).outcomes ≡ (worker_state_at crew worker).emitted
  emitted-here worker inside =
      ap (λ (p : Position). emitted_count p.outcomes) (position-here query start crew positions work worker inside)
      ∙ sym (work.at.at_positions.each worker inside).shows.emitted

  sum-emitted : (workers : List ℕ) → ((worker : ℕ) → among worker workers ≡ true → worker < crew_of query.flow)
      → sum_by (λ (p : Position). emitted_count p.outcomes) (map (position_at reached.positions) workers) ≡ emitted_at crew workers
  sum-emitted [] known = refl
  sum-emitted (worker ∷ more) known =
      sum_by-cons (λ (p : Position). emitted_count p.outcomes) (position_at reached.positions worker) (map (position_at reached.positions) more)
      ∙ ap (λ n. n + sum_by (λ (p : Position). emitted_count p.outcomes) (map (position_at reached.positions) more)) (emitted-here worker (known worker (among-first worker more)))
      ∙ ap (λ n. (worker_state_at crew worker).emitted + n) (sum-emitted more (λ w among-it. known w (among-more w worker more among-it)))
      ∙ sym (sum_by-cons (λ w. (worker_state_at crew w).emitted) worker more)

  pub emitted-is : (op : ℕ) → emitted_by query.flow reached op ≡ emitted_at crew (workers_of query.flow op)
  unfolding emitted_by crew_at
  emitted-is op = sum-emitted (workers_of query.flow op) (λ worker known. worker-known query.flow op worker known)

  pub finished-are : have_finished reached ≡ list_all (λ (w : WorkerState). w.finished) crew
  finished-are = by (list_all (λ (w : WorkerState). w.finished) crew) refl
    where
      by : (b : Bool) → list_all (λ (w : WorkerState). w.finished) crew ≡ b → have_finished reached ≡ b
      by true e = finished-reached query start crew positions work (all-have crew e)
      by false e = let one = some-has-not crew e in unfinished-reached query start crew positions work one.0 one.1 one.2
