-- Workers that are put back, one after the other.
use Rattle.std.proofs.Common.{◌≡◌, sym, ap, subst, ◌∙◌, ℕ, ◌+◌, ◌<◌, ◌≤◌, List, [], ◌∷◌, ◌++◌, length, set, slice_index, slice_index_or, Option, None, Some, is_some, true, inl, inr, arith}
use Rattle.std.proofs.Math.ListN.{get_or-eq_default}
use Rattle.std.proofs.lemmas.Bool.{cases_lt, false≢true}
use Rattle.std.proofs.lemmas.Bool.Decides.{eqb_tells}
use Rattle.std.proofs.lemmas.List.{get_or-set_other, get_or-set_same, get_or_append_left, get_or_default, get_or_push}
use Rattle.amber_worker.specs.WorkerState.{WorkerState}
use Rattle.amber_dataflow.specs.AtWork.{no_worker_state, worker_state_at}
use Rattle.amber_leg.specs.Driving.{worker_placed}
use Rattle.amber_leg.specs.declared.driver.Driver.{Driver}

-- the driver that has a place
abbrev pub driver_of : List ℕ → List Driver → ℕ → Driver → Driver
driver_of owners drivers place d = slice_index_or drivers (slice_index owners place) d

-- where a worker is taken out, the later places are as they were
module _ (owners : List ℕ) (drivers : List Driver) (number turn : ℕ) (d next : Driver) (there : turn < length drivers)
    (next-is : next.workers.items ≡ set (slice_index_or drivers turn d).workers.items number None) where
  pub later-same : (place : ℕ) (e : Driver) → number + 1 ≤ place → worker_placed (driver_of owners (set drivers turn next) place e) place ≡ worker_placed (driver_of owners drivers place e) place
  later-same place e past =
      elim (eqb_tells (slice_index owners place) turn) [
        | inl same ↦
            ap (λ k. worker_placed (slice_index_or (set drivers turn next) k e) place) same.1
            ∙ ap (λ one. worker_placed one place) (get_or-set_same drivers turn next e there)
            ∙ ap (λ xs. slice_index_or xs place None) next-is
            ∙ get_or-set_other (slice_index_or drivers turn d).workers.items number place None None (λ is. absurd (omega (arith, is)))
            ∙ ap (λ one. worker_placed one place) (get_or_default drivers turn d e there)
            ∙ ap (λ k. worker_placed (slice_index_or drivers k e) place) (sym same.1)
        | inr other ↦ ap (λ one. worker_placed one place) (get_or-set_other drivers turn (slice_index owners place) next e other.1)
      ]

-- a worker more is back
pub back-more : (owners : List ℕ) (drivers : List Driver) (number : ℕ) (crew : List WorkerState) (w : WorkerState) → length crew ≡ number
    → ((place : ℕ) (e : Driver) → place < number → worker_placed (driver_of owners drivers place e) place ≡ Some (worker_state_at crew place))
    → ((e : Driver) → worker_placed (driver_of owners drivers number e) number ≡ Some w)
    → (place : ℕ) (e : Driver) → place < number + 1 → worker_placed (driver_of owners drivers place e) place ≡ Some (worker_state_at (crew ++ w ∷ []) place)
back-more owners drivers number crew w long back here place e inside = elim (cases_lt place number) [
  | inl before ↦ back place e before ∙ ap Some (sym (get_or_append_left crew (w ∷ []) no_worker_state place (let before = before in omega (arith, long))))
  | inr past ↦
      let same : place ≡ number = (let past = past in omega arith) in
      subst (λ k. worker_placed (driver_of owners drivers k e) k ≡ Some (worker_state_at (crew ++ w ∷ []) k)) (sym same)
      (here e ∙ ap Some (sym (get_or_push crew w no_worker_state number long)))
]

-- a place that a worker has, whatever stands for one that is not there
pub slot-some : (items : List (Option WorkerState)) (k : ℕ) (d : Option WorkerState) → is_some (slice_index_or items k None) ≡ true → slice_index_or items k d ≡ slice_index_or items k None
slot-some items k d some = elim (cases_lt k (length items)) [
  | inl inside ↦ get_or_default items k d None inside
  | inr past ↦ absurd (false≢true (sym (ap is_some (get_or-eq_default items None past)) ∙ some))
]
