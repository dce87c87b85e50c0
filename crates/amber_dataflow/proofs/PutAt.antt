-- Another constant or another condition at an operator, worker by worker.
use Rattle.std.proofs.Common.{Option, ◌≡◌, ◌≢◌, refl, ap, ◌∙◌, ℕ, zero, suc, ◌<◌, eqb, List, [], ◌∷◌, length, map, Bool, true, false, if◌then◌else◌, arith}
use Rattle.std.proofs.lemmas.Bool.{eq-eqb, ne_eqb}
use Rattle.amber_rows.specs.declared.value.Value.{Value}
use Rattle.amber_rows.specs.declared.cond.Cond.{Cond}
use Rattle.amber_log.specs.Grammar.{AreEntries}
use Rattle.amber_meaning.specs.Position.{Position}
use Rattle.amber_meaning.specs.Rules.{Leads}
use Rattle.amber_worker.specs.AtPosition.{Context, IsAtPosition}
use Rattle.amber_worker.specs.Changes.{ShowsSet, with_when}
use Rattle.amber_operators.specs.States.{with_value}
use Rattle.amber_worker.specs.WorkerState.{WorkerState}
use Rattle.amber_worker.proofs.Commands.{shows-set, stands-watched}
use Rattle.amber_dataflow.specs.AtWork.{worker_state_at}
use Rattle.amber_dataflow.specs.Dataflow.{worker_set, worker_watching}
use Rattle.amber_dataflow.proofs.Renewed.{HasItsEnds}

-- ---- another constant

module _ (op : ℕ) (value : Value) where
  pub set-at : (crew : List WorkerState) (k : ℕ) → k < length crew → worker_state_at (map (worker_set op value) crew) k ≡ worker_set op value (worker_state_at crew k)
  set-at [] k less = absurd (omega arith)
  set-at (w ∷ crew) zero less = refl
  set-at (w ∷ crew) (suc k) less = set-at crew k (omega arith)

  pub ends-set : (crew : List WorkerState) (k : ℕ) → HasItsEnds (worker_state_at crew k) (worker_state_at (map (worker_set op value) crew) k)
  ends-set [] k = record { number = refl; ins = refl; outs = refl }
  ends-set (w ∷ crew) zero = by (eqb w.op op)
    where
      by : (b : Bool) → HasItsEnds w (if b then record w { operator_state = with_value value w.operator_state } else w)
      by true = record { number = refl; ins = refl; outs = refl }
      by false = record { number = refl; ins = refl; outs = refl }
  ends-set (w ∷ crew) (suc k) = ends-set crew k

  pub journal-set : (crew : List WorkerState) (k : ℕ) → (worker_state_at (map (worker_set op value) crew) k).journal ≡ (worker_state_at crew k).journal
  journal-set [] k = refl
  journal-set (w ∷ crew) zero = by (eqb w.op op)
    where
      by : (b : Bool) → (if b then record w { operator_state = with_value value w.operator_state } else w).journal ≡ w.journal
      by true = refl
      by false = refl
  journal-set (w ∷ crew) (suc k) = journal-set crew k

  -- where it is one of the operator
  pub stands-set : (context : Context) (w : WorkerState) (p : Position) → context.placement.op ≡ op → w.journal ≡ [] → IsAtPosition context w p p
      → IsAtPosition (record context { orders = record context.orders { constants = value ∷ [] } }) (worker_set op value w) p p
  unfolding Leads AreEntries ShowsSet
  stands-set context w p own none stands =
      rw (eq-eqb w.op op (stands.shows.op ∙ own)) (record {
        leads = rw none refl;
        text = rw none tt;
        shows = shows-set value w context p stands.shows;
      })

  -- where it is not, it stays as it was
  pub stays : (w : WorkerState) → w.op ≢ op → worker_set op value w ≡ w
  stays w other = ap (λ b. if b then record w { operator_state = with_value value w.operator_state } else w) (ne_eqb w.op op other)

-- ---- another condition

module _ (op : ℕ) (when : Option Cond) where
  pub watched-at : (crew : List WorkerState) (k : ℕ) → k < length crew → worker_state_at (map (worker_watching op when) crew) k ≡ worker_watching op when (worker_state_at crew k)
  watched-at [] k less = absurd (omega arith)
  watched-at (w ∷ crew) zero less = refl
  watched-at (w ∷ crew) (suc k) less = watched-at crew k (omega arith)

  pub ends-watched : (crew : List WorkerState) (k : ℕ) → HasItsEnds (worker_state_at crew k) (worker_state_at (map (worker_watching op when) crew) k)
  ends-watched [] k = record { number = refl; ins = refl; outs = refl }
  ends-watched (w ∷ crew) zero = by (eqb w.op op)
    where
      by : (b : Bool) → HasItsEnds w (if b then record w { when = when } else w)
      by true = record { number = refl; ins = refl; outs = refl }
      by false = record { number = refl; ins = refl; outs = refl }
  ends-watched (w ∷ crew) (suc k) = ends-watched crew k

  pub journal-watched : (crew : List WorkerState) (k : ℕ) → (worker_state_at (map (worker_watching op when) crew) k).journal ≡ (worker_state_at crew k).journal
  journal-watched [] k = refl
  journal-watched (w ∷ crew) zero = by (eqb w.op op)
    where
      by : (b : Bool) → (if b then record w { when = when } else w).journal ≡ w.journal
      by true = refl
      by false = refl
  journal-watched (w ∷ crew) (suc k) = journal-watched crew k

  -- where it is one of the operator
  pub watches : (context : Context) (w : WorkerState) (p : Position) → context.placement.op ≡ op → w.journal ≡ [] → IsAtPosition context w p p
      → IsAtPosition (with_when when context.orders.counted context) (worker_watching op when w) p p
  watches context w p own none stands =
      rw (eq-eqb w.op op (stands.shows.op ∙ own)) (stands-watched context w p when context.orders.counted stands none)

  -- where it is not, it stays as it was
  pub unwatched : (w : WorkerState) → w.op ≢ op → worker_watching op when w ≡ w
  unwatched w other = ap (λ b. if b then record w { when = when } else w) (ne_eqb w.op op other)
